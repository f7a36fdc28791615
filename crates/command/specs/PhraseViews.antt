-- Options and phrases as clauses see them.
use Rattle.elf_model.specs.Inputs.Command as command
use Rattle.command.specs.declared.phrases.Setting.{Setting}
use Rattle.command.specs.declared.phrases.Setting.TheVariants as setting
use Rattle.command.specs.declared.phrases.Phrase.{Phrase}
use Rattle.command.specs.declared.phrases.Phrase.TheVariants as phrase
use Rattle.command.specs.Views.{source_of}

abbrev pub option_of : Setting → command.Setting
option_of setting.OutputFile = command.OutputFile
option_of setting.EntrySymbol = command.EntrySymbol
option_of setting.UndefinedSymbol = command.UndefinedSymbol
option_of setting.SearchDirectory = command.SearchDirectory
option_of setting.LibraryName = command.LibraryName
option_of setting.Machine = command.Machine
option_of setting.MapPath = command.MapPath
option_of setting.TextSegment = command.TextSegment

abbrev pub said_of : Phrase → command.Phrase
said_of (phrase.Output path) = command.Output path.now
said_of (phrase.Entry name) = command.Entry name.now
said_of (phrase.Undefined name) = command.Undefined name.now
said_of (phrase.Directory path) = command.Directory path.now
said_of (phrase.MapFile path) = command.MapFile path.now
said_of (phrase.Base address) = command.Base address
said_of (phrase.Input source) = command.Input (source_of source)
said_of phrase.GroupStart = command.GroupStart
said_of phrase.GroupEnd = command.GroupEnd
said_of phrase.WholeStart = command.WholeStart
said_of phrase.WholeEnd = command.WholeEnd
said_of phrase.Check = command.Check
said_of phrase.Strip = command.Strip
said_of phrase.NoEffect = command.NoEffect
