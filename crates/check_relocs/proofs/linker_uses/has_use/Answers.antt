use Rattle.std.proofs.Common.{◌≤◌, ◌∙◌, ℕ, List, length, subst, sym}
use Rattle.elf_model.specs.declared.records.Symbol.{Symbol}
use Rattle.check_relocs.specs.Referrers.{object_here, objects_here}
use Rattle.check_relocs.proofs.NoUses.{no_use_more, no_use_past}
use Rattle.check_relocs.proofs.linker_uses.has_use.Goals as goal

pub loop-j-preserved : goal.loop-j-preserved
loop-j-preserved c =
    let h = c.args.here.now in
    no_use_more (objects_here h) h.number (object_here h) c.loop-j.j c.loop-j.invariant (sym c.is_use_of.ensures ∙ c.if-is_use_of.false)

pub returns : goal.returns
returns c = λ e.
    let h = c.args.here.now in
    no_use_past (objects_here h) h.number (object_here h) c.loop-j.j c.loop-j.invariant
    (subst (λ (ss : List Symbol). length ss ≤ c.loop-j.j) c.symbols.ensures (subst (λ (n : ℕ). n ≤ c.loop-j.j) c.len-j-end.ensures c.loop-j-test.false))
