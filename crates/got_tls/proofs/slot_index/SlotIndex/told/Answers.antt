use Rattle.std.proofs.Common.{◌≡◌, ℕ, Some, ap, length, List, subst, sym, ◌∙◌}
use Rattle.std.specs.Prelude.{position}
use Rattle.std.specs.List.{slice_get}
use Rattle.std.proofs.lemmas.Bool.{ltb-true}
use Rattle.std.proofs.lemmas.Option.{slice_get-get_or}
use Rattle.elf_model.specs.Link.Slots.{same_request}
use Rattle.got_tls.specs.Asking.{request_for}
use Rattle.got_tls.specs.Positions.{IsNoted}
use Rattle.got_tls.specs.Views.{Listed}
use Rattle.got_tls.specs.declared.slot.Slot.{Slot}
use Rattle.got_tls.proofs.ToldPositions.{told_at}
use Rattle.got_tls.proofs.slot_index.SlotIndex.told.Goals as goal

pub returns : goal.returns
returns c = λ o here.
    let l = c.self.inside.loaded in
    let ks = c.self.inside.slots.keys in
    let k = c.args.symbol.object.0 in
    let j = c.args.symbol.symbol in
    let lookup = c.in_ok-known.ensures.lookup in
    let i = c.in_ok-position.position in
    let known = c.in_ok-known.known.now in
    let there : slice_get ks i ≡ Some known =
    subst (λ (xs : List Slot). slice_get xs i ≡ Some known) c.as_slice.ensures.keys
    (slice_get-get_or c.as_slice.result.now i known (ltb-true i (length c.as_slice.result.now) (sym lookup.0)) ∙ ap (λ (s : Slot). Some s) (sym lookup.1)) in
    subst (λ (x : Listed). position (same_request (request_for c.args.kind k o j)) x.slots ≡ Some i) c.self.view_is
    (told_at l k j c.in_ok-number.number o c.name_count-named.ensures.named
    (subst (λ (x : Listed). slice_get x.objects k ≡ Some o) (sym c.self.view_is) here)
    (sym c.name_number.ensures.number ∙ c.in_ok-number.was)
    c.args.kind ks c.self.inside.positions.items i known c.self.invariant
    (subst (λ (ps : List ℕ). IsNoted ps c.in_ok-number.number i) c.deref.ensures.value c.in_ok-position.ensures) there c.as_slice.ensures.unique
    (sym c.is_of.ensures ∙ c.if-not-is_of.false))
