use Rattle.std.proofs.Common.{◌==◌, ◌∙◌, Bool, List, ap, sym, ℕ}
use Rattle.std.specs.List.{list_any}
use Rattle.elf_model.specs.Marks.{is_marked}
use Rattle.elf_model.proofs.MarkedNumbers.{among_marked}
use Rattle.comdat.proofs.dropped.Dropped.has.Goals as goal

pub returns : goal.returns
returns c =
    c.is_marked.ensures
    ∙ (ap (λ (m : List Bool). is_marked m c.args.section) c.deref.ensures.value
    ∙ (among_marked c.self.inside.marks.items c.args.section
    ∙ ap (λ (ks : List ℕ). list_any (λ k. k == c.args.section) ks) (sym c.self.invariant ∙ c.self.view_is)))
