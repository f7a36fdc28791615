use Rattle.std.proofs.Common.{◌∙◌, List, ℕ, arith, subst}
use Rattle.std.specs.Prelude.{◌↔◌, All, IsTrue}
use Rattle.std.proofs.lemmas.List.Sorted.{All-permutation, IsPermutation-sym}
use Rattle.elf_model.specs.Image.RightLink.{HasNothingElse, Subject, things_of}
use Rattle.elf_model.specs.declared.verdict.Clause.TheVariants.{C5}
use Rattle.check_places.specs.Sweeps.{EndFits}
use Rattle.checker.proofs.ThingsOfSegment.{nothing_else_moved}
use Rattle.checker.proofs.c11_fill.holds.Goals as goal

-- of the clauses before, the fifth says where the things end
pub has_nothing_else-requires-clause-fits : goal.has_nothing_else-requires-clause-fits
has_nothing_else-requires-clause-fits c =
    let fifth = c.requires C5 (omega arith) in
    let ends : All EndFits (things_of c.args.bound.now) = λ k d low. let within = fifth.within k d low in omega arith in
    All-permutation EndFits _ _ c.things_by_address.ensures.same ends

pub returns : goal.returns
returns c =
    let s = c.args.bound.now in
    let sorted = c.things_by_address.result.now in
    let same = c.things_by_address.ensures.same in
    let told =
    subst (λ (image : List ℕ). IsTrue c.in_ok-filled.filled ↔ HasNothingElse image s.map.symtab sorted) c.memory.ensures
    (subst (λ (t : Subject). IsTrue c.in_ok-filled.filled ↔ HasNothingElse c.memory.result.now t.map.symtab sorted) (c.behind-bound.view_is ∙ c.link.ensures) c.in_ok-filled.ensures) in (
      λ e. nothing_else_moved s.image s.map.symtab sorted (things_of s) (IsPermutation-sym (things_of s) sorted same) (told.0 e),
      λ h. told.1 (nothing_else_moved s.image s.map.symtab (things_of s) sorted same h),
    )
