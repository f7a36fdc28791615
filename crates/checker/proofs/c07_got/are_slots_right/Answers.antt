use Rattle.std.proofs.Common.{◌≡◌, ◌∙◌, List, Bool, ap, map, subst, sym, true}
use Rattle.std.specs.Prelude.{◌↔◌, All, IsTrue}
use Rattle.std.proofs.lemmas.Bool.{false≢true}
use Rattle.elf_model.specs.Image.MapRecord.{SlotRow}
use Rattle.elf_model.specs.Link.Slots.{row_request}
use Rattle.check_link.specs.Slots.{are_distinct}
use Rattle.checker.proofs.SlotCounts.{all_there, have_slots, marks_set, none_missing, rows_asked, slots_distinct}
use Rattle.checker.proofs.c07_got.are_slots_right.Goals as goal

pub returns-then-not-are_distinct : goal.returns-then-not-are_distinct
returns-then-not-are_distinct c =
    let b = c.args.bindings.now in
    let told = c.are_distinct.ensures ∙ ap (λ (rows : List SlotRow). are_distinct (map row_request rows)) c.slots.ensures.rows in (
      λ e. absurd (false≢true e),
      λ have. absurd (false≢true (sym c.if-not-are_distinct.true ∙ told ∙ slots_distinct b.places.slots b.objects have)),
    )

pub returns-then-needs : goal.returns-then-needs
returns-then-needs c =
    let b = c.args.bindings.now in (
      λ e. absurd (false≢true e),
      λ have. absurd (false≢true (sym (none_missing c.args.needs.now b.objects b.places.slots c.requires have) ∙ c.if-needs.true)),
    )

pub returns : goal.returns
returns c =
    let b = c.args.bindings.now in
    let n = c.args.needs.now in
    let told = c.are_distinct.ensures ∙ ap (λ (rows : List SlotRow). are_distinct (map row_request rows)) c.slots.ensures.rows in
    let set = subst (λ (marks : List Bool). IsTrue c.are_set.result ↔ All (λ mark. mark ≡ true) marks) c.deref.ensures.value c.are_set.ensures in (
      λ e. have_slots b.places.slots b.objects (sym told ∙ c.if-not-are_distinct.false) (rows_asked n b.objects b.places.slots c.requires (set.0 e))
          (all_there n b.objects b.places.slots c.requires c.if-needs.false),
      λ have. set.1 (marks_set n b.objects b.places.slots c.requires have),
    )
