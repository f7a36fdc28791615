use Rattle.std.proofs.Common.{subst, sym, List, ℕ, arith}
use Rattle.std.specs.Prelude.{◌↔◌, All, IsTrue}
use Rattle.std.proofs.lemmas.List.Elements.{All-map}
use Rattle.elf_model.specs.declared.verdict.Clause.TheVariants.{C6}
use Rattle.elf_model.proofs.Listed.{All-unmap}
use Rattle.check_relocs.specs.Bytes.{HoldsFields, LiesWhole}
use Rattle.check_link.specs.Views.{placed_view, placed_views}
use Rattle.check_link.specs.declared.things.Placed.{Placed}
use Rattle.checker.proofs.PieceSections.{all_inside, holds_wanted, rising_row, wanted_holds}
use Rattle.checker.proofs.PlacedFacts.{lie_whole}
use Rattle.checker.proofs.c10_bytes.holds_own.Goals as goal

-- of the clauses before, the sixth says where the pieces lie
pub all_held-requires-clause-whole : goal.all_held-requires-clause-whole
all_held-requires-clause-whole c =
    subst (λ (image : List ℕ). All (LiesWhole image) c.args.own.now) (sym c.memory.ensures)
    (lie_whole c.args.bound.now c.args.own.now c.requires.own.among (c.requires.before C6 (omega arith)))

pub all_held-requires-clause-rising : goal.all_held-requires-clause-rising
all_held-requires-clause-rising c = rising_row c.args.bound.now c.args.number c.args.row.now c.requires.row

pub all_held-requires-clause-inside : goal.all_held-requires-clause-inside
all_held-requires-clause-inside c = all_inside c.args.bound.now c.args.number c.args.row.now c.requires.row c.args.own.now c.requires.own

pub returns : goal.returns
returns c =
    let s = c.args.bound.now in
    let n = c.args.number in
    let row = c.args.row.now in
    let own = c.args.own.now in
    let Holds = λ (image : List ℕ) (q : Placed). HoldsFields image row (placed_view q) in
    let held =
    subst (λ (image : List ℕ). IsTrue c.all_held.result ↔ All (Holds image) own) c.memory.ensures c.all_held.ensures in (
      λ e. holds_wanted s n row c.requires.row (placed_views own) c.requires.own (All-map (HoldsFields s.image row) placed_view own (held.0 e)),
      λ h. held.1 (All-unmap (HoldsFields s.image row) placed_view own (wanted_holds s n row c.requires.row (placed_views own) c.requires.own h)),
    )
