use Rattle.std.proofs.Common.{◌≡◌, ◌∙◌, Bool, ℕ, Option, Some, None, ap, cond, map, not, arith}
use Rattle.std.specs.Prelude.{is_some}
use Rattle.std.specs.List.{position_from}
use Rattle.std.specs.Option.{option_or}
use Rattle.linkmap.specs.Borrowed.{slot_row}
use Rattle.elf_model.specs.Link.Slots.{Request, is_slot_of, row_request, same_request}
use Rattle.check_link.specs.Slots.{are_fresh, has_in, none_seen, place_in}
use Rattle.check_link.proofs.SlotSteps.{distinct_end, distinct_more, index_end, index_more}
use Rattle.check_link.proofs.slots.index_slots.Goals as goal

pub loop-i-init : goal.loop-i-init
loop-i-init c =
    let names = c.args.numbering.now.names.now in
    let rows = map slot_row c.args.lines.now in
    let none : (q : Request) → place_in names c.new-positions.result q ≡ None = λ q. c.new-positions.ensures names q in
    let unseen : has_in names c.new-positions.result ≡ none_seen = λ i q. ap (λ (o : Option ℕ). is_some o) (none q) i in
    record {
      index = λ q. ap (λ (o : Option ℕ). option_or o (position_from (is_slot_of q) 0 rows)) (none q);
      distinct = ap (λ (seen : Request → Bool). are_fresh seen (map row_request rows)) unseen;
    }

pub loop-i-preserved : goal.loop-i-preserved
loop-i-preserved c =
    let names = c.args.numbering.now.names.now in
    let lines = c.args.lines.now in
    let i = c.loop-i.i in
    let x = c.index-lines-i.result in
    let old = c.loop-i.positions in
    let new = c.add.new.self in
    let grown : (q : Request) → place_in names new q ≡ option_or (place_in names old q) (cond (is_slot_of q (slot_row x)) (Some i) None) =
    λ q. c.in_ok-fresh.ensures.positions names c.number_for.ensures q
    ∙ ap (λ (r : Request). option_or (place_in names old q) (cond (same_request q r) (Some i) None)) c.request_of_line-request.ensures in
    let fresh = c.in_ok-fresh.ensures.fresh names c.number_for.ensures ∙ ap (λ (r : Request). not (has_in names old r)) c.request_of_line-request.ensures in
    record {
      index = λ q. index_more lines i x c.loop-i-test.true c.index-lines-i.is names old new grown q _ (c.loop-i.invariant.index q);
      distinct = distinct_more lines i x c.loop-i-test.true c.index-lines-i.is names old new grown c.loop-i.distinct c.in_ok-fresh.fresh _ fresh c.loop-i.invariant.distinct;
    }

pub returns-clause-index : goal.returns-clause-index
returns-clause-index c = λ q.
    index_end c.args.lines.now c.loop-i.i (omega (arith, c.loop-i-test.false)) (place_in c.args.numbering.now.names.now c.loop-i.positions q) _ (is_slot_of q)
    (c.loop-i.invariant.index q)

pub returns-clause-distinct : goal.returns-clause-distinct
returns-clause-distinct c =
    distinct_end c.args.lines.now c.loop-i.i (omega (arith, c.loop-i-test.false)) c.loop-i.distinct _ (has_in c.args.numbering.now.names.now c.loop-i.positions)
    c.loop-i.invariant.distinct
