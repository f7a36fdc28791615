-- Loading step by step: what is loaded from here on is what is loaded one step later.
use Rattle.std.proofs.Common.{◌≡◌, ℕ, zero, suc, ◌<◌, true, false, List, [], ◌∷◌, ◌++◌, length, Some, None, refl, sym, ◌∙◌, ap, subst, append_assoc}
use Rattle.std.specs.Prelude.{◌≢◌}
use Rattle.std.proofs.lemmas.Bool.{cond-false, cond-true}
use Rattle.elf_model.specs.Inputs.ArchiveFile.{IndexEntry}
use Rattle.elf_model.specs.Own.Causes.{Reaches}
use Rattle.elf_model.specs.Inputs.Command.{Plan}
use Rattle.elf_model.specs.Link.Loading.{Group, LoadedObject, Single, Step, loaded_step, loaded_steps, most_rounds, next, round, rounds, searched, turn, turn_of_whole, with_member, with_object}
use Rattle.elf_model.specs.Link.LoadingBounds.{left_of_all}
use Rattle.elf_model.specs.Link.LoadingRules.{Round, RoundsBy, SearchedBy, Turn, TurnIf}
use Rattle.elf_model.specs.Inputs.Opening.{Opened, archive_entries}
use Rattle.elf_model.proofs.LoadingBounds.{Extends, by_case, extends_refl, extends_same, extends_trans, extends_with}
use Rattle.elf_model.proofs.LoadingLaws.{falls_strictly, left_most, round_ends, round_extends, round_falls, round_only, rounds_by_only, rounds_end, turn_ends, turn_extends, turn_only}

-- Turns.
searches : (plan : Plan) (o : Opened) (from to : List LoadedObject) → o.whole ≡ false → (n : ℕ) × SearchedBy n plan o from to → Turn plan o from to
searches plan o from to whole s = subst (λ b. TurnIf b plan o from to) (sym whole) s

searched_by : (plan : Plan) (o : Opened) (from to : List LoadedObject) → o.whole ≡ false → Turn plan o from to → (n : ℕ) × SearchedBy n plan o from to
searched_by plan o from to whole t = subst (λ b. TurnIf b plan o from to) whole t

pub turn_none : (plan : Plan) (o : Opened) (from : List LoadedObject) → o.whole ≡ false → next plan from o ≡ None → turn plan o from ≡ from
turn_none plan o from whole none = turn_only plan o from from (turn plan o from) (searches plan o from from whole (0, (none, refl))) (turn_ends plan o from)

pub turn_some :
    (plan : Plan) (o : Opened) (from : List LoadedObject) (e : IndexEntry) → o.whole ≡ false → next plan from o ≡ Some e →
    turn plan o (with_member from o e) ≡ turn plan o from
turn_some plan o from e whole is =
    let now = with_member from o e in
    let later = searched_by plan o now (turn plan o now) whole (turn_ends plan o now) in
    turn_only plan o from (turn plan o from) (turn plan o now) (turn_ends plan o from)
    (searches plan o from (turn plan o now) whole (suc later.0, (e, is, later.1)))

pub turn_whole : (plan : Plan) (o : Opened) (from : List LoadedObject) → o.whole ≡ true → turn plan o from ≡ turn_of_whole o from
turn_whole plan o from whole = cond-true o.whole (turn_of_whole o from) (searched (length (archive_entries o.bytes)) plan o from) whole

pub turn_behind : (plan : Plan) (o : Opened) (from : List LoadedObject) → Extends from (turn plan o from)
turn_behind plan o from = turn_extends plan o from (turn plan o from) (turn_ends plan o from)

-- Rounds.
pub round_behind : (plan : Plan) (os : List Opened) (from : List LoadedObject) → Extends from (round plan os from)
round_behind plan os from = round_extends plan os from (round plan os from) (round_ends plan os from)

ends_rounds : (plan : Plan) (os : List Opened) (from : List LoadedObject) → (n : ℕ) × RoundsBy n plan os from (rounds plan os from)
ends_rounds plan os from = rounds_end (most_rounds os) plan os from (left_most os from)

pub rounds_last : (plan : Plan) (os : List Opened) (from : List LoadedObject) → round plan os from ≡ from → rounds plan os from ≡ from
rounds_last plan os from none =
    let ends = ends_rounds plan os from in
    rounds_by_only 0 ends.0 plan os from from (rounds plan os from) (once, refl) ends.1
  where
    once : Round plan os from from
    once = subst (Round plan os from) none (round_ends plan os from)

pub rounds_more : (plan : Plan) (os : List Opened) (from : List LoadedObject) → round plan os from ≢ from → rounds plan os (round plan os from) ≡ rounds plan os from
rounds_more plan os from some =
    let ends = ends_rounds plan os from in
    let later = ends_rounds plan os (round plan os from) in
    rounds_by_only ends.0 (suc later.0) plan os from (rounds plan os from) (rounds plan os (round plan os from)) ends.1
    (round plan os from, round_ends plan os from, some, later.1)

pub rounds_less : (plan : Plan) (os : List Opened) (from : List LoadedObject) → round plan os from ≢ from → left_of_all os (round plan os from) < left_of_all os from
rounds_less plan os from some = falls_strictly some (round_falls plan os from (round plan os from) (round_ends plan os from))

rounds_by_behind : (n : ℕ) (plan : Plan) (os : List Opened) (from to : List LoadedObject) → RoundsBy n plan os from to → Extends from to
rounds_by_behind zero plan os from to r = extends_same from to r.1
rounds_by_behind (suc n) plan os from to r = extends_trans from r.0 to (round_extends plan os from r.0 r.1) (rounds_by_behind n plan os r.0 to r.3)

-- the first round is on the way
first_round : (n : ℕ) (plan : Plan) (os : List Opened) (from to : List LoadedObject) → RoundsBy n plan os from to → Extends (round plan os from) to
first_round zero plan os from to r = extends_same (round plan os from) to (r.1 ∙ sym (round_only plan os from from (round plan os from) r.0 (round_ends plan os from)))
first_round (suc n) plan os from to r =
    subst (λ (l : List LoadedObject). Extends l to) (sym (round_only plan os from r.0 (round plan os from) r.1 (round_ends plan os from)))
    (rounds_by_behind n plan os r.0 to r.3)

pub rounds_from_round : (plan : Plan) (os : List Opened) (from : List LoadedObject) → Extends (round plan os from) (rounds plan os from)
rounds_from_round plan os from = let ends = ends_rounds plan os from in first_round ends.0 plan os from (rounds plan os from) ends.1

pub rounds_behind : (plan : Plan) (os : List Opened) (from : List LoadedObject) → Extends from (rounds plan os from)
rounds_behind plan os from = let ends = ends_rounds plan os from in rounds_by_behind ends.0 plan os from (rounds plan os from) ends.1

-- Steps.
pub step_behind : (plan : Plan) (s : Step) (from : List LoadedObject) → Extends from (loaded_step plan s from)
step_behind plan (Single o) from =
    by_case o.archive (λ b. subst (Extends from) (sym (cond-true o.archive (turn plan o from) (with_object from o 0 o.bytes) b)) (turn_behind plan o from))
    (λ b. subst (Extends from) (sym (cond-false o.archive (turn plan o from) (with_object from o 0 o.bytes) b)) (extends_with from o 0 o.bytes))
step_behind plan (Group g os) from = rounds_behind plan os from

pub steps_behind : (plan : Plan) (ss : List Step) (from : List LoadedObject) → Extends from (loaded_steps plan ss from)
steps_behind plan [] from = extends_refl from
steps_behind plan (s ∷ ss) from =
    extends_trans from (loaded_step plan s from) (loaded_steps plan ss (loaded_step plan s from)) (step_behind plan s from)
    (steps_behind plan ss (loaded_step plan s from))

-- What loading reaches on the way it reaches in the end.
pub reaches_later : (from to : List LoadedObject) (Stands : LoadedObject → Type 0) → Extends from to → Reaches from Stands → Reaches to Stands
reaches_later from to Stands e r = record {
  front = r.front;
  reached = r.reached;
  rest = r.rest ++ e.0;
  order = e.1 ∙ ap (λ (l : List LoadedObject). l ++ e.0) r.order ∙ append_assoc r.front (r.reached ∷ r.rest) e.0;
  are_objects = r.are_objects;
  lawful = r.lawful;
  stands = r.stands;
}
