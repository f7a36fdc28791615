use Rattle.std.proofs.Common.{◌≡◌, ◌∙◌, ◌∷◌, Bool, ap, codes, rules, sym, true}
use Rattle.std.specs.Prelude.{Err, Ok, Result}
use Rattle.elf_model.specs.Inputs.Command.{Plan, command_of}
use Rattle.elf_model.specs.declared.faults.CmdFault.{CmdFault}
use Rattle.elf_model.specs.Inputs.Files.{words_of}
use Rattle.debug_main.specs.Words.{plain_words, stripped}
use Rattle.debug_main.proofs.StripFirst.{strip_first}
use Rattle.debug_main.proofs.words.stripped.Goals as goal

-- a plan of words that ask for no symbol table
abbrev strip_or : Result Plan CmdFault → Bool
strip_or (Ok p) = p.strip
strip_or (Err f) = true

strip_of : (r : Result Plan CmdFault) (p : Plan) → stripped r ≡ Ok p → p.strip ≡ true
strip_of (Ok q) p is = sym (ap strip_or is)
strip_of (Err f) p is = sym (ap strip_or is)

pub returns-clause-plan : goal.returns-clause-plan
returns-clause-plan c =
    let e : words_of c.add_plain.new.all.items ≡ codes "-s" ∷ plain_words (words_of c.args.words.now) = search rules in
    ap command_of e ∙ strip_first (plain_words (words_of c.args.words.now))

pub returns-clause-strip : goal.returns-clause-strip
returns-clause-strip c = λ p is. strip_of (command_of (plain_words (words_of c.args.words.now))) p (sym (returns-clause-plan c) ∙ is)
