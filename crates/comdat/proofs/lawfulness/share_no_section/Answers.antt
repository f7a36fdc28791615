use Rattle.std.proofs.Common.{◌≡◌, Bool, List, ap, drop, length, refl, subst, sym, ◌+◌, ◌∙◌}
use Rattle.std.specs.Prelude.{AllPairs}
use Rattle.std.specs.List.{All}
use Rattle.std.proofs.lemmas.Bool.{false≢true}
use Rattle.elf_model.specs.Link.Groups.{ShareNoSection}
use Rattle.elf_model.proofs.Rests.{Left}
use Rattle.elf_model.specs.Marks.{marked}
use Rattle.elf_model.proofs.Marks.{length-marked, written_back}
use Rattle.elf_model.proofs.SharedSections.{AreBelow, IsApartFrom, left_end, left_more, left_stop, unmarked_same}
use Rattle.comdat.proofs.lawfulness.share_no_section.Goals as goal

pub returns-then-not-are_unmarked : goal.returns-then-not-are_unmarked
returns-then-not-are_unmarked c = (
  λ e. absurd (false≢true e),
  λ all. absurd (
      left_stop (AllPairs ShareNoSection c.args.groups.now) c.loop-group.marks.items c.args.groups.now c.loop-group.group-index c.group-item.result
      c.loop-group-test.true c.group-item.is
      (λ own. false≢true (c.if-not-are_unmarked.ensures.1 (
      unmarked_same c.loop-group.marks.items c.deref.result.now c.group-item.result.members c.members.result.now (sym c.deref.ensures.value) (sym c.members.ensures) own)))
      c.loop-group.invariant.apart all
      ),
)

pub loop-group-preserved : goal.loop-group-preserved
loop-group-preserved c =
    let Q = AllPairs ShareNoSection c.args.groups.now in
    let gs = c.args.groups.now in
    let i = c.loop-group.group-index in
    let g = c.group-item.result in
    let marks = c.loop-group.marks.items in
    let inv = c.loop-group.invariant in
    let new_is : c.mark.new.marks ≡ marked marks g.members = c.mark.ensures ∙ (λ j. marked (c.deref_mut.ensures.value j) (c.members-in-loop-group.ensures j)) in
    let size = c.loop-group.marks.ok.0 ∙ sym (length-marked marks g.members) ∙ ap (λ (m : List Bool). length m) (sym new_is) in
    let same = written_back marks c.mark.new.marks c.loop-group.marks.len size ∙ new_is in
    let below = subst (λ n. All (AreBelow n) gs) (sym inv.size) c.requires in
    let own = unmarked_same c.deref.result.now marks c.members.result.now g.members c.deref.ensures.value c.members.ensures (c.if-not-are_unmarked.ensures.0 refl) in
    record {
      size = ap (λ (m : List Bool). length m) same ∙ length-marked marks g.members ∙ inv.size;
      apart = subst (λ (m : List Bool). Left Q (IsApartFrom m (drop (i + 1) gs))) (sym same)
          (left_more Q marks gs i g c.loop-group-test.true c.group-item.is below own inv.apart);
    }

pub returns : goal.returns
returns c = (
  λ e. left_end (AllPairs ShareNoSection c.args.groups.now) c.loop-group.marks.items c.args.groups.now c.loop-group.group-index c.loop-group-test.false c.loop-group.invariant.apart,
  λ all. refl,
)
