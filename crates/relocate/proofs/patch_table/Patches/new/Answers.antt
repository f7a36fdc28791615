use Rattle.std.proofs.Common.{List, rules, subst, sym, ℕ, ◌≡◌}
use Rattle.elf_model.specs.Link.Loading.{LoadedObject}
use Rattle.relocate.specs.Values.{ArePatches}
use Rattle.relocate.proofs.patch_table.Patches.new.Goals as goal

pub invariant_of-result : goal.invariant_of-result
invariant_of-result c =
    let b = c.args.placement.now in
    let rows = c.args.rows.items in
    let same : b.objects ≡ c.in_ok-clone.field-0.objects = search rules in
    subst (λ (os : List LoadedObject). ArePatches (record { base = c.base.result; objects = os }) rows) same
    (subst (λ (n : ℕ). ArePatches (record { base = n; objects = b.objects }) rows) (sym c.base.ensures) c.requires.rows)
