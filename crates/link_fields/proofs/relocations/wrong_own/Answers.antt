use Rattle.std.proofs.Common.{ap, map, refl, sym, ◌∙◌}
use Rattle.std.specs.Prelude.{All}
use Rattle.std.proofs.lemmas.Bool.{false≢true}
use Rattle.check_load.specs.KeptRelocations.{relocation_at}
use Rattle.check_load.specs.Views.{loaded_view}
use Rattle.elf_model.specs.Link.Relocation.{relocations_from}
use Rattle.link_fields.proofs.Lists.{left_all, left_end, left_more, within_head, within_same, within_tail}
use Rattle.link_fields.specs.Parts.{IsFieldRightUnlessOut}
use Rattle.link_fields.proofs.relocations.wrong_own.Goals as goal

pub loop-relocation-init : goal.loop-relocation-init
loop-relocation-init c =
    let at = relocation_at c.args.number (loaded_view c.args.loaded.now) in
    let all = relocations_from c.args.number (loaded_view c.args.loaded.now) in
    let same = ap (map at) c.into_iter-relocation-iterator.ensures.into_iter_gives ∙ c.relocations-relocation-items.ensures.relocations c.args.number in (
      left_all (IsFieldRightUnlessOut c.args.parts.now c.args.taken.now c.args.drops.now) all (map at c.into_iter-relocation-iterator.result) same,
      within_same all (map at c.into_iter-relocation-iterator.result) same,
    )

pub loop-relocation-preserved : goal.loop-relocation-preserved
loop-relocation-preserved c =
    let at = relocation_at c.args.number (loaded_view c.args.loaded.now) in
    let P = IsFieldRightUnlessOut c.args.parts.now c.args.taken.now c.args.drops.now in
    let all = relocations_from c.args.number (loaded_view c.args.loaded.now) in (
      left_more P (All P all) (map at c.loop-relocation.relocation-iterator) (at c.in-Some.relocation) (map at c.next.new.self)
          (ap (map at) c.in-Some.ensures.steps) (c.is_right_unless_out.ensures.0 c.if-not-is_right_unless_out.false) c.loop-relocation.invariant.0,
      within_tail all (map at c.loop-relocation.relocation-iterator) c.loop-relocation.invariant.1 (at c.in-Some.relocation) (map at c.next.new.self)
          (ap (map at) c.in-Some.ensures.steps),
    )

pub returns-then-not-is_right_unless_out-clause-wrong : goal.returns-then-not-is_right_unless_out-clause-wrong
returns-then-not-is_right_unless_out-clause-wrong c =
    let o = loaded_view c.args.loaded.now in
    let at = relocation_at c.args.number o in
    record {
      one = at c.in-Some.relocation;
      among =
          within_head (relocations_from c.args.number o) (map at c.loop-relocation.relocation-iterator) c.loop-relocation.invariant.1
          (at c.in-Some.relocation) (map at c.next.new.self) (ap (map at) c.in-Some.ensures.steps);
      called_is = c.field_named.ensures o;
      denied = λ h. false≢true (sym c.if-not-is_right_unless_out.true ∙ c.is_right_unless_out.ensures.1 h);
    }

pub returns-clause-right : goal.returns-clause-right
returns-clause-right c = λ none.
    let at = relocation_at c.args.number (loaded_view c.args.loaded.now) in
    let P = IsFieldRightUnlessOut c.args.parts.now c.args.taken.now c.args.drops.now in
    left_end P (All P (relocations_from c.args.number (loaded_view c.args.loaded.now))) (map at c.loop-relocation.relocation-iterator)
    (ap (map at) c.in-None.ensures.steps.0) c.loop-relocation.invariant.0
