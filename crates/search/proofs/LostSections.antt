-- The sections that loaded objects lose, by the groups of the objects before each.
use Rattle.std.proofs.Common.{◌≡◌, ℕ, zero, suc, Bool, true, false, cond, List, [], ◌∷◌, ◌++◌, Option, Some, None, refl, sym, ◌∙◌, ap, subst, append_assoc}
use Rattle.std.specs.List.{flat_map}
use Rattle.std.proofs.lemmas.List.{append-nil}
use Rattle.std.proofs.lemmas.List.Sums.{fold-append}
use Rattle.elf_model.specs.Inputs.ArchiveFile.{IndexEntry, Member}
use Rattle.elf_model.specs.Inputs.Command.{Plan}
use Rattle.elf_model.specs.Inputs.Files.{File}
use Rattle.elf_model.specs.Link.Groups.{AreDropped, dropped, seen_after, seen_with}
use Rattle.elf_model.specs.Link.Loading.{Group, LoadedObject, Single, Step, loaded_objects, loaded_step, loaded_steps, lost_sections, next, object_behind, round, rounds_within, most_rounds, searched, seen_behind, steps, turn, turn_of_whole, with_member, with_members, with_object, is_begun}
use Rattle.elf_model.specs.Inputs.ObjectFile.{groups}
use Rattle.elf_model.specs.Inputs.Opening.{Opened, archive_data, archive_members, opened}
use Rattle.elf_model.proofs.DroppedSections.{dropped_iff}
use Rattle.search.specs.Loads.{AreDroppedInOrder}

-- each object has lost what it loses behind some objects and those before it
abbrev LostBehind : List LoadedObject → List LoadedObject → Type 0
LostBehind before [] = Unit {0}
LostBehind before (o ∷ os) = (o.dropped ≡ lost_sections before o.bytes) × LostBehind (before ++ o ∷ []) os

lost_more : (before os : List LoadedObject) (x : LoadedObject) → LostBehind before os → x.dropped ≡ lost_sections (before ++ os) x.bytes → LostBehind before (os ++ x ∷ [])
lost_more before [] x lost is = (is ∙ ap (λ (l : List LoadedObject). lost_sections l x.bytes) (append-nil before), tt)
lost_more before (o ∷ os) x lost is =
    (lost.0, lost_more (before ++ o ∷ []) os x lost.1 (is ∙ ap (λ (l : List LoadedObject). lost_sections l x.bytes) (sym (append_assoc before (o ∷ []) os))))

lost_at : (front before : List LoadedObject) (o : LoadedObject) (after : List LoadedObject) → LostBehind front (before ++ o ∷ after) → o.dropped ≡ lost_sections (front ++ before) o.bytes
lost_at front [] o after lost = lost.0 ∙ ap (λ (l : List LoadedObject). lost_sections l o.bytes) (sym (append-nil front))
lost_at front (x ∷ xs) o after lost =
    lost_at (front ++ x ∷ []) xs o after lost.1 ∙ ap (λ (l : List LoadedObject). lost_sections l o.bytes) (append_assoc front (x ∷ []) xs)

-- What is loaded keeps to it.
Lost : List LoadedObject → Type 0
Lost os = LostBehind [] os

either : (b : Bool) (xs ys : List LoadedObject) → Lost xs → Lost ys → Lost (cond b xs ys)
either true xs ys first second = first
either false xs ys first second = second

lost_with : (os : List LoadedObject) (o : Opened) (offset : ℕ) (bytes : List ℕ) → Lost os → Lost (with_object os o offset bytes)
unfolding Lost
lost_with os o offset bytes lost = lost_more [] os (object_behind os o offset bytes) lost refl

lost_searched : (n : ℕ) (plan : Plan) (o : Opened) (os : List LoadedObject) → Lost os → Lost (searched n plan o os)
lost_searched zero plan o os lost = lost
lost_searched (suc n) plan o os lost = by (next plan os o) (λ e. lost_searched n plan o (with_member os o e) (lost_with os o e.offset (archive_data o.bytes e.offset) lost))
  where
    by : (found : Option IndexEntry) → ((e : IndexEntry) → Lost (searched n plan o (with_member os o e))) →
        Lost (elim found as (λ _. List LoadedObject) [ None ↦ os | Some e ↦ searched n plan o (with_member os o e) ])
    by None more = lost
    by (Some e) more = more e

lost_members : (os : List LoadedObject) (o : Opened) (ms : List Member) → Lost os → Lost (with_members os o ms)
lost_members os o [] lost = lost
lost_members os o (m ∷ ms) lost = lost_members (with_object os o m.offset m.bytes) o ms (lost_with os o m.offset m.bytes lost)

lost_turn : (plan : Plan) (o : Opened) (os : List LoadedObject) → Lost os → Lost (turn plan o os)
lost_turn plan o os lost =
    either o.whole (turn_of_whole o os) (searched _ plan o os)
    (either (is_begun os o.number) os (with_members os o (archive_members o.bytes)) lost (lost_members os o (archive_members o.bytes) lost))
    (lost_searched _ plan o os lost)

lost_round : (plan : Plan) (inputs : List Opened) (os : List LoadedObject) → Lost os → Lost (round plan inputs os)
lost_round plan [] os lost = lost
lost_round plan (o ∷ inputs) os lost = lost_round plan inputs (turn plan o os) (lost_turn plan o os lost)

lost_rounds : (n : ℕ) (plan : Plan) (inputs : List Opened) (os : List LoadedObject) → Lost os → Lost (rounds_within n plan inputs os)
lost_rounds zero plan inputs os lost = lost
lost_rounds (suc n) plan inputs os lost =
    either _ os (rounds_within n plan inputs (round plan inputs os)) lost (lost_rounds n plan inputs (round plan inputs os) (lost_round plan inputs os lost))

lost_step : (plan : Plan) (s : Step) (os : List LoadedObject) → Lost os → Lost (loaded_step plan s os)
lost_step plan (Single o) os lost = either o.archive (turn plan o os) (with_object os o 0 o.bytes) (lost_turn plan o os lost) (lost_with os o 0 o.bytes lost)
lost_step plan (Group g inputs) os lost = lost_rounds (most_rounds inputs) plan inputs os lost

lost_steps : (plan : Plan) (ss : List Step) (os : List LoadedObject) → Lost os → Lost (loaded_steps plan ss os)
lost_steps plan [] os lost = lost
lost_steps plan (s ∷ ss) os lost = lost_steps plan ss (loaded_step plan s os) (lost_step plan s os lost)

lost_all : (files : List File) (plan : Plan) → Lost (loaded_objects files plan)
unfolding Lost loaded_objects
lost_all files plan = lost_steps plan (steps (opened files plan)) [] tt

-- the signatures that are seen are those of all groups before
seen_groups : (seen : List (List ℕ)) (os : List LoadedObject) → seen_behind seen os ≡ seen_after seen (flat_map (λ o. groups o.bytes) os)
seen_groups seen [] = refl
seen_groups seen (o ∷ os) =
    seen_groups (seen_after seen (groups o.bytes)) os ∙ sym (fold-append seen_with seen (groups o.bytes) (flat_map (λ x. groups x.bytes) os))

pub dropped_in_order : (files : List File) (plan : Plan) → AreDroppedInOrder (loaded_objects files plan)
unfolding Lost lost_sections
dropped_in_order files plan before o after is =
    let lost = lost_at [] before o after (subst (LostBehind []) is (lost_all files plan)) in
    let earlier = flat_map (λ (x : LoadedObject). groups x.bytes) before in
    let same : o.dropped ≡ dropped (seen_after [] earlier) (groups o.bytes) = lost ∙ ap (λ (seen : List (List ℕ)). dropped seen (groups o.bytes)) (seen_groups [] before) in
    subst (AreDropped earlier (groups o.bytes)) (sym same) (dropped_iff earlier (groups o.bytes))
