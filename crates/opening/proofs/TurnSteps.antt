-- The steps by which loading goes on, whoever takes them: the members of a whole archive, the next member of a search,
-- archives in order, and when a round has taken something.
use Rattle.std.proofs.Common.{◌≡◌, ℕ, suc, ◌+◌, ◌<◌, false, List, ◌∷◌, length, get_or, drop, drop-cons, Option, Some, None, refl, sym, ◌∙◌, ap, subst, arith}
use Rattle.std.specs.Prelude.{◌≢◌, option_map}
use Rattle.std.proofs.lemmas.Option.{none-some, same_Some}
use Rattle.elf_model.specs.Inputs.ArchiveFile.{IndexEntry, Member}
use Rattle.elf_model.specs.Inputs.Command.{Plan}
use Rattle.elf_model.specs.Inputs.Opening.{Opened, archive_data}
use Rattle.elf_model.specs.Link.Loading.{LoadedObject, next, round, turn, with_member, with_members, with_object}
use Rattle.elf_model.proofs.LoadingBounds.{Extends}
use Rattle.elf_model.proofs.LoadingLaws.{members_extend}
use Rattle.elf_model.proofs.LoadingSteps.{round_behind, turn_behind, turn_some}

-- The members of a whole archive, one after the other.
module _ (os : List LoadedObject) (o : Opened) (ms : List Member) (i : ℕ) (m : Member) (end : List LoadedObject) (within : i < length ms) (is : m ≡ get_or ms i m) where
  split : drop i ms ≡ m ∷ drop (suc i) ms
  split = drop-cons ms i m within ∙ ap (λ (x : Member). x ∷ drop (suc i) ms) (sym is)

  pub members_step : with_members os o (drop i ms) ≡ end → with_members (with_object os o m.offset m.bytes) o (drop (i + 1) ms) ≡ end
  members_step rest =
      let e : i + 1 ≡ suc i = omega arith in
      rw e (sym (ap (with_members os o) split) ∙ rest)

  pub members_later : with_members os o (drop i ms) ≡ end → Extends (with_object os o m.offset m.bytes) end
  members_later rest =
      subst (Extends (with_object os o m.offset m.bytes)) (sym (ap (with_members os o) split) ∙ rest)
      (members_extend (with_object os o m.offset m.bytes) o (drop (suc i) ms))

-- The next member of an archive that is searched.
pub found_next :
    (plan : Plan) (os : List LoadedObject) (o item : Opened) (offset : ℕ) (bytes : List ℕ) (r : Option ℕ) → r ≡ option_map (λ e. e.offset) (next plan os o) →
    r ≡ Some offset → item ≡ o → bytes ≡ archive_data o.bytes offset →
    (e : IndexEntry) × (next plan os o ≡ Some e) × (with_object os item offset bytes ≡ with_member os o e)
found_next plan os o item offset bytes r told is same read = by (next plan os o) refl
  where
    by : (found : Option IndexEntry) → next plan os o ≡ found → (e : IndexEntry) × (next plan os o ≡ Some e) × (with_object os item offset bytes ≡ with_member os o e)
    by None none = absurd (none-some offset (sym (ap (λ (f : Option IndexEntry). option_map (λ e. e.offset) f) none) ∙ (sym told ∙ is)))
    by (Some e) some =
        let at : e.offset ≡ offset = same_Some e.offset offset (sym (ap (λ (f : Option IndexEntry). option_map (λ x. x.offset) f) some) ∙ (sym told ∙ is)) in (
          e,
          some,
          ap (λ (x : Opened). with_object os x offset bytes) same
              ∙ (ap (λ (b : List ℕ). with_object os o offset b) read ∙ ap (λ (k : ℕ). with_object os o k (archive_data o.bytes k)) (sym at)),
        )

pub turn_later : (plan : Plan) (os : List LoadedObject) (o : Opened) (e : IndexEntry) (to end : List LoadedObject) → o.whole ≡ false → next plan os o ≡ Some e →
    to ≡ with_member os o e → turn plan o os ≡ end → turn plan o to ≡ end
turn_later plan os o e to end whole some is rest = ap (turn plan o) is ∙ (turn_some plan o os e whole some ∙ rest)

pub turn_extends_later : (plan : Plan) (os : List LoadedObject) (o : Opened) (e : IndexEntry) (to end : List LoadedObject) → o.whole ≡ false →
    next plan os o ≡ Some e → to ≡ with_member os o e → turn plan o os ≡ end → Extends to end
turn_extends_later plan os o e to end whole some is rest =
    subst (Extends to) (turn_later plan os o e to end whole some is rest) (turn_behind plan o to)

-- Archives in order.
module _ (plan : Plan) (inputs : List Opened) (i : ℕ) (o : Opened) (os end : List LoadedObject) (within : i < length inputs) (is : o ≡ get_or inputs i o) where
  first : drop i inputs ≡ o ∷ drop (suc i) inputs
  first = drop-cons inputs i o within ∙ ap (λ (x : Opened). x ∷ drop (suc i) inputs) (sym is)

  pub round_step : round plan (drop i inputs) os ≡ end → (to : List LoadedObject) → to ≡ turn plan o os → round plan (drop (i + 1) inputs) to ≡ end
  round_step rest to next_ =
      let e : i + 1 ≡ suc i = omega arith in
      rw e (ap (round plan (drop (suc i) inputs)) next_ ∙ (sym (ap (λ (xs : List Opened). round plan xs os) first) ∙ rest))

  pub round_later : round plan (drop i inputs) os ≡ end → Extends (turn plan o os) end
  round_later rest =
      subst (Extends (turn plan o os)) (sym (ap (λ (xs : List Opened). round plan xs os) first) ∙ rest) (round_behind plan (drop (suc i) inputs) (turn plan o os))

-- A round that leaves the number of objects has taken nothing.
pub took_some : (os to : List LoadedObject) → (length to ≡ length os → ⊥) → to ≢ os
took_some os to other same = other (ap (λ (l : List LoadedObject). length l) same)
