-- What words say, and the rows of the table, as the definitions see them.
use Rattle.std.specs.Prelude.{ℕ, List, Option, codes, map}
use Rattle.elf_model.specs.Inputs.Command as command
use Rattle.judge_model.specs.Plans as plans
use Rattle.judge_model.specs.Words as words
use Rattle.foreign_words.specs.declared.rows.Form.{Form}
use Rattle.foreign_words.specs.declared.rows.Form.TheVariants as form
use Rattle.foreign_words.specs.declared.rows.Row.{Row}
use Rattle.foreign_words.specs.declared.rows.Text.{Text}
use Rattle.foreign_words.specs.declared.rows.Text.TheVariants as text
use Rattle.foreign_words.specs.declared.rows.Value.{Value}
use Rattle.foreign_words.specs.declared.rows.Value.TheVariants as value
use Rattle.foreign_words.specs.declared.says.Says.{Says}
use Rattle.foreign_words.specs.declared.says.Says.TheVariants as says
use Rattle.foreign_words.specs.declared.says.Start.{Start}
use Rattle.foreign_words.specs.declared.says.Switch.{Switch}
use Rattle.foreign_words.specs.declared.says.Switch.TheVariants as switch

abbrev pub switch_view : Switch → words.Says
switch_view switch.GroupStart = words.Profile command.GroupStart
switch_view switch.GroupEnd = words.Profile command.GroupEnd
switch_view switch.WholeStart = words.Profile command.WholeStart
switch_view switch.WholeEnd = words.Profile command.WholeEnd
switch_view switch.Strip = words.Profile command.Strip
switch_view (switch.Collects b) = words.Collects b
switch_view (switch.Tables b) = words.Tables b
switch_view switch.TakesFirst = words.TakesFirst
switch_view switch.WritesCode = words.WritesCode
switch_view (switch.ExecutesStack b) = words.ExecutesStack b
switch_view (switch.Feature n) = words.Feature n
switch_view switch.StripsLocal = words.StripsLocal
switch_view switch.Nothing = words.Nothing

abbrev pub start_view : Start → plans.Start
start_view s = record { name = s.name.now; address = s.address }

abbrev pub says_view : Says → words.Says
says_view (says.Switch s) = switch_view s
says_view (says.Output v) = words.Profile (command.Output v.now)
says_view (says.Entry v) = words.Profile (command.Entry v.now)
says_view (says.Undefined v) = words.Profile (command.Undefined v.now)
says_view (says.Directory v) = words.Profile (command.Directory v.now)
says_view (says.Library v) = words.Profile (command.Input (command.Library v.now))
says_view (says.Path v) = words.Profile (command.Input (command.Path v.now))
says_view (says.Segment a) = words.Segment a
says_view (says.Begins s) = words.Begins (start_view s)

abbrev pub says_views : List Says → List words.Says
says_views ss = map says_view ss

-- what a value makes of a text
abbrev pub text_view : Text → List ℕ → Option words.Says
text_view text.Output = words.named command.Output
text_view text.Entry = words.named command.Entry
text_view text.Undefined = words.named command.Undefined
text_view text.Directory = words.named command.Directory
text_view text.Library = words.named words.library
text_view text.Segment = words.at_address words.Segment
text_view text.TextSection = words.at_address (words.section_at (codes ".text"))
text_view text.DataSection = words.at_address (words.section_at (codes ".data"))
text_view text.BssSection = words.at_address (words.section_at (codes ".bss"))
text_view text.AnySection = words.section_start
text_view text.Any = words.any_text

abbrev pub value_view : Value → List ℕ → Option words.Says
value_view (value.Text t) = text_view t
value_view value.Machine = words.machine
value_view value.Keyword = words.keyword

abbrev pub form_view : Form → words.Form
form_view (form.Alone s) = words.Alone (switch_view s)
form_view (form.Next v) = words.Next (value_view v)
form_view (form.Joined t) = words.Joined (text_view t)

abbrev pub row_view : Row → words.Row
row_view r = record { text = r.text.now; form = form_view r.form }

abbrev pub row_views : List Row → List words.Row
row_views rs = map row_view rs
