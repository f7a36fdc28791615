use Rattle.std.proofs.Common.{◌∙◌, ◌<◌, Bool, List, ℕ, ap, length, rules, subst, sym}
use Rattle.std.specs.Prelude.{◌↔◌, IsTrue}
use Rattle.byteview.specs.Numbers.{text}
use Rattle.elf_read.specs.Reading.{is_begun}
use Rattle.elf_read.proofs.FirstBytes.{has_text, name_is}
use Rattle.elf_read.proofs.object_file.ObjectFile.is_named.Goals as goal

pub returns-in-Some : goal.returns-in-Some
returns-in-Some c =
    let s = c.in-Some.symbol in
    let strings = c.self.inside.symbol_strings in
    let name = name_is c.args.self.now strings c.self.inside.symbols c.args.j s (search rules) (search rules) (sym c.get.ensures ∙ c.in-Some.is) in
    subst (λ (n : List ℕ). IsTrue c.is_begun.result ↔ (0 < length n)) (sym name)
    (subst (λ (b : Bool). IsTrue b ↔ (0 < length (text strings s.st_name))) (sym (c.is_begun.ensures ∙ ap is_begun c.part.ensures.exact))
    (has_text strings s.st_name))
