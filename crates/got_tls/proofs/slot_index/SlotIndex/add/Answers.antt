use Rattle.std.proofs.Common.{◌≡◌, List, ap, subst, sym, ◌∙◌}
use Rattle.std.specs.Prelude.{Some}
use Rattle.std.specs.List.{slice_get}
use Rattle.elf_model.specs.Image.MapRecord.{TargetRow}
use Rattle.elf_model.specs.Link.Slots.{Request, same_request, target_of}
use Rattle.elf_model.specs.Link.Relocation.{symbol_at}
use Rattle.indexmap.specs.IndexSet.{insert_key}
use Rattle.search.specs.Views.{loaded_view}
use Rattle.got_tls.specs.Asking.{request_for}
use Rattle.got_tls.specs.Positions.{ArePositions}
use Rattle.got_tls.specs.Views.{Listed, slot_view, slot_views}
use Rattle.got_tls.specs.declared.slot.Slot.{Slot}
use Rattle.got_tls.proofs.Keys.{inserted}
use Rattle.got_tls.proofs.NotedPositions.{positions_noted, positions_with, stands_stored}
use Rattle.got_tls.proofs.ToldPositions.{named_target, not_added}
use Rattle.got_tls.proofs.slot_index.SlotIndex.add.Goals as goal

pub returns-in-Some-clause-slots : goal.returns-in-Some-clause-slots
returns-in-Some-clause-slots c =
    let o = loaded_view c.args.loaded.now in
    sym (not_added (request_for c.args.kind c.args.symbol.object.0 o c.args.symbol.symbol) c.args.self.now.slots c.in-Some._position
    (c.in-Some.ensures o c.requires))

pub invariant_of-self-in-Continue-branch-2 : goal.invariant_of-self-in-Continue-branch-2
invariant_of-self-in-Continue-branch-2 c =
    let l = c.self.inside.loaded in
    let old = c.self.inside.slots.keys in
    let new = c.insert_full.new.self.keys in
    let slot = c.new-slot.result in
    let k = c.args.symbol.object.0 in
    let j = c.args.symbol.symbol in
    let o = loaded_view c.args.loaded.now in
    let number = c.in-Some-name_number.number in
    let at = c.in_ok-position.ensures.stored in
    let kept = subst (λ (ks : List Slot). ArePositions l.names ks c.self.inside.positions.items) (sym c.in_ok-position.ensures.keys) (positions_with l.names old slot c.self.inside.positions.items c.self.invariant) in
    let target = ap (λ (q : Request). q.target) c.new-slot.ensures ∙ (c.target_of.ensures
    ∙ named_target l k j number o c.name_count-count.ensures.named (subst (λ (x : Listed). slice_get x.objects k ≡ Some o) (sym c.self.view_is) c.requires)
    (sym c.name_number.ensures.number ∙ c.in-Some-name_number.is)) in
    positions_noted l.names new c.self.inside.positions.items c.note.new.positions.items number c.in_ok-position.position kept c.note.ensures
    (stands_stored l.names new slot at.0 number c.in_ok-position.position at.1 at.2 target)

pub invariant_of-self-in_err-note : goal.invariant_of-self-in_err-note
invariant_of-self-in_err-note c =
    let l = c.self.inside.loaded in
    let old = c.self.inside.slots.keys in
    let new = c.insert_full.new.self.keys in
    let slot = c.new-slot.result in
    let k = c.args.symbol.object.0 in
    let j = c.args.symbol.symbol in
    let o = loaded_view c.args.loaded.now in
    let number = c.in-Some-name_number.number in
    let at = c.in_ok-position.ensures.stored in
    let kept = subst (λ (ks : List Slot). ArePositions l.names ks c.self.inside.positions.items) (sym c.in_ok-position.ensures.keys) (positions_with l.names old slot c.self.inside.positions.items c.self.invariant) in
    let target = ap (λ (q : Request). q.target) c.new-slot.ensures ∙ (c.target_of.ensures
    ∙ named_target l k j number o c.name_count-count.ensures.named (subst (λ (x : Listed). slice_get x.objects k ≡ Some o) (sym c.self.view_is) c.requires)
    (sym c.name_number.ensures.number ∙ c.in-Some-name_number.is)) in
    positions_noted l.names new c.self.inside.positions.items c.note.new.positions.items number c.in_ok-position.position kept c.note.ensures
    (stands_stored l.names new slot at.0 number c.in_ok-position.position at.1 at.2 target)

pub invariant_of-self-in_default-name_number : goal.invariant_of-self-in_default-name_number
invariant_of-self-in_default-name_number c =
    subst (λ (ks : List Slot). ArePositions c.self.inside.loaded.names ks c.self.inside.positions.items) (sym c.in_ok-position.ensures.keys)
    (positions_with c.self.inside.loaded.names c.self.inside.slots.keys c.new-slot.result c.self.inside.positions.items c.self.invariant)

pub returns-in_ok-note-clause-slots : goal.returns-in_ok-note-clause-slots
returns-in_ok-note-clause-slots c =
    let o = loaded_view c.args.loaded.now in
    let q : Request = request_for c.args.kind c.args.symbol.object.0 o c.args.symbol.symbol in
    let is : slot_view c.new-slot.result ≡ q = c.new-slot.ensures ∙ ap (λ (t : TargetRow). record { kind = c.args.kind; target = t }) c.target_of.ensures in
    ap slot_views c.in_ok-position.ensures.keys
    ∙ (inserted c.self.inside.slots.keys c.new-slot.result
    ∙ (ap (insert_key same_request (slot_views c.self.inside.slots.keys)) is
    ∙ ap (λ (x : Listed). insert_key same_request x.slots q) c.self.view_is))

pub returns-in_default-name_number-clause-slots : goal.returns-in_default-name_number-clause-slots
returns-in_default-name_number-clause-slots c =
    let o = loaded_view c.args.loaded.now in
    let q : Request = request_for c.args.kind c.args.symbol.object.0 o c.args.symbol.symbol in
    let is : slot_view c.new-slot.result ≡ q = c.new-slot.ensures ∙ ap (λ (t : TargetRow). record { kind = c.args.kind; target = t }) c.target_of.ensures in
    ap slot_views c.in_ok-position.ensures.keys
    ∙ (inserted c.self.inside.slots.keys c.new-slot.result
    ∙ (ap (insert_key same_request (slot_views c.self.inside.slots.keys)) is
    ∙ ap (λ (x : Listed). insert_key same_request x.slots q) c.self.view_is))
