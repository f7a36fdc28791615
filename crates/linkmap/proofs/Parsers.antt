-- A reader takes just what a text spells: whatever it takes is spelled so, and whatever is spelled so it
-- takes again. Readers made of such readers are such.
use Rattle.std.proofs.Common.{◌≡◌, ℕ, List, ◌++◌, Option, Some, None, refl, ap, subst, ◌⊎◌, inl, inr}
use Rattle.std.specs.Prelude.{option_map}
use Rattle.std.proofs.lemmas.List.{append_assoc}
use Rattle.std.proofs.lemmas.Option.{none-some, some_pair_parts}
use Rattle.linkmap.specs.Reading.{Reads, tag, chained, seen, both, before, fork}
use Rattle.linkmap.proofs.Tags.{tag_takes, tag_again}

-- a reader took a value, and left the rest
abbrev pub Took : {X : Type 0} → Option (X × List ℕ) → X → List ℕ → Type 0
Took o x rest = o ≡ Some (x, rest)

pub record IsParser {X : Type 0} (text : X → List ℕ) (Fits : X → Type 0) (read : Reads X) : Type 0 where
  pub takes : (bytes : List ℕ) (x : X) (rest : List ℕ) → read bytes ≡ Some (x, rest) → (bytes ≡ text x ++ rest) × Fits x
  pub again : (x : X) (rest : List ℕ) → Fits x → read (text x ++ rest) ≡ Some (x, rest)

-- what a chain took came through its first reader
pub record Through {X Y : Type 0} (o : Option (X × List ℕ)) (next : X → Reads Y) (y : Y) (left : List ℕ) : Type 0 where
  pub value : X
  pub rest : List ℕ
  pub first : o ≡ Some (value, rest)
  pub second : next value rest ≡ Some (y, left)

pub chained_some : {X Y : Type 0} (o : Option (X × List ℕ)) (next : X → Reads Y) (y : Y) (left : List ℕ) → chained o next ≡ Some (y, left) → Through o next y left
chained_some None next y left e = absurd (none-some (y, left) e)
chained_some (Some p) next y left e = record { value = p.0; rest = p.1; first = refl; second = e }

-- and what a fork took came through one of its ways
pub fork_some : {X : Type 0} (o : Option (List ℕ)) (here : Reads X) (other : Option (X × List ℕ)) (y : X × List ℕ) → fork o here other ≡ Some y → ((rest : List ℕ) × (o ≡ Some rest) × (here rest ≡ Some y)) ⊎ (other ≡ Some y)
fork_some None here other y e = inr e
fork_some (Some rest) here other y e = inl (rest, refl, e)

module _ {X Y : Type 0} (s : X → List ℕ) (F : X → Type 0) (first : Reads X) (t : Y → List ℕ) (G : Y → Type 0) (second : Reads Y) where
  pub both-IsParser : IsParser s F first → IsParser t G second → IsParser (λ (p : X × Y). s p.0 ++ t p.1) (λ (p : X × Y). F p.0 × G p.1) (both first second)
  both-IsParser p q = record {
    takes = λ bytes z left e.
        let c = chained_some (first bytes) (λ x rest. chained (second rest) (λ y last. Some ((x, y), last))) z left e in
        let d = chained_some (second c.rest) (λ y last. Some ((c.value, y), last)) z left c.second in
        let same = some_pair_parts (c.value, d.value) z d.rest left d.second in
        let front = p.takes bytes c.value c.rest c.first in
        let back = q.takes c.rest d.value d.rest d.first in
        let joined = append_assoc (s c.value) (t d.value) left in
        let whole : bytes ≡ (s c.value ++ t d.value) ++ left = cc (joined, front.0, back.0, same.1) in
        subst (λ (w : X × Y). (bytes ≡ (s w.0 ++ t w.1) ++ left) × (F w.0 × G w.1)) same.0 (whole, (front.1, back.1));
    again = λ z left f.
        rw (append_assoc (s z.0) (t z.1) left, p.again z.0 (t z.1 ++ left) f.0, q.again z.1 left f.1) refl;
  }

module _ {X Y : Type 0} (f : X → Y) (g : Y → X) (s : X → List ℕ) (F : X → Type 0) (G : Y → Type 0) (read : Reads X) where
  pub seen-IsParser : IsParser s F read → ((x : X) → g (f x) ≡ x) → ((y : Y) → f (g y) ≡ y) → ((x : X) → F x → G (f x)) → ((y : Y) → G y → F (g y)) → IsParser (λ y. s (g y)) G (seen f read)
  seen-IsParser p gf fg to from = record {
    takes = λ bytes y left e.
        let c = chained_some (read bytes) (λ x rest. Some (f x, rest)) y left e in
        let same = some_pair_parts (f c.value) y c.rest left c.second in
        let taken = p.takes bytes c.value c.rest c.first in
        let text = ap s (gf c.value) in
        let whole : bytes ≡ s (g (f c.value)) ++ left = cc (text, taken.0, same.1) in
        subst (λ (w : Y). (bytes ≡ s (g w) ++ left) × G w) same.0 (whole, to c.value taken.1);
    again = λ y left h. rw (p.again (g y) left (from y h), fg y) refl;
  }

pub mapped_some : {X : Type 0} (y x : X) (o : Option (List ℕ)) (left : List ℕ) → option_map {U = X × List ℕ} (λ last. (y, last)) o ≡ Some (x, left) → (y ≡ x) × (o ≡ Some left)
mapped_some y x None left e = absurd (none-some (x, left) e)
mapped_some y x (Some last) left e = let same = some_pair_parts y x last left e in (same.0, ap Some same.1)

module _ {X : Type 0} (tail : List ℕ) (s : X → List ℕ) (F : X → Type 0) (read : Reads X) where
  pub before_takes : ((bytes : List ℕ) (x : X) (rest : List ℕ) → read bytes ≡ Some (x, rest) → (bytes ≡ s x ++ rest) × F x) → (bytes : List ℕ) (x : X) (left : List ℕ) → before tail read bytes ≡ Some (x, left) → (bytes ≡ (s x ++ tail) ++ left) × F x
  before_takes takes bytes x left e =
      let c = chained_some (read bytes) (λ y rest. option_map (λ last. (y, last)) (tag tail rest)) x left e in
      let d = mapped_some c.value x (tag tail c.rest) left c.second in
      let taken = takes bytes c.value c.rest c.first in
      let ended = tag_takes tail c.rest left d.1 in
      let joined = append_assoc (s c.value) tail left in
      let whole : bytes ≡ (s c.value ++ tail) ++ left = cc (joined, taken.0, ended) in
      subst (λ (w : X). (bytes ≡ (s w ++ tail) ++ left) × F w) d.0 (whole, taken.1)

  pub before-IsParser : IsParser s F read → IsParser (λ x. s x ++ tail) F (before tail read)
  before-IsParser p = record {
    takes = before_takes p.takes;
    again = λ x left f. rw (append_assoc (s x) tail left, p.again x (tail ++ left) f, tag_again tail left) refl;
  }

pub pair_of : {X Y : Type 0} {s : X → List ℕ} {F : X → Type 0} {first : Reads X} {t : Y → List ℕ} {G : Y → Type 0} {second : Reads Y} → IsParser s F first → IsParser t G second → IsParser (λ (p : X × Y). s p.0 ++ t p.1) (λ (p : X × Y). F p.0 × G p.1) (both first second)
pair_of {X} {Y} {s} {F} {first} {t} {G} {second} p q = both-IsParser s F first t G second p q

-- a reader that chooses by the first word: what it took is what one of the words and its reader spell
module _ {Y : Type 0} (text : Y → List ℕ) (Fits : Y → Type 0) (bytes : List ℕ) (y : Y) (rest : List ℕ) where
  abbrev pub Spelled : Type 0
  Spelled = (bytes ≡ text y ++ rest) × Fits y

  pub arm : {X : Type 0} (word : List ℕ) (kind : X → Y) {s : X → List ℕ} {F : X → Type 0} {read : Reads X} → IsParser s F read → ((x : X) → text (kind x) ≡ word ++ s x) → ((x : X) → F x → Fits (kind x)) → (other : Option (Y × List ℕ)) → (Took other y rest → Spelled) → Took (fork (tag word bytes) (seen kind read) other) y rest → Spelled
  arm {X} word kind {s} {F} {read} p is fits other next h = by (fork_some (tag word bytes) (seen kind read) other (y, rest) h) where
    by : ((left : List ℕ) × (tag word bytes ≡ Some left) × Took (seen kind read left) y rest) ⊎ Took other y rest → Spelled
    by (inr e) = next e
    by (inl (left, found, e)) =
        let c = chained_some (read left) (λ x last. Some (kind x, last)) y rest e in
        let same = some_pair_parts (kind c.value) y c.rest rest c.second in
        let taken = p.takes left c.value c.rest c.first in
        let front = tag_takes word bytes left found in
        let joined = append_assoc word (s c.value) rest in
        let spelled = is c.value in
        let whole : bytes ≡ text (kind c.value) ++ rest = cc (front, taken.0, joined, spelled, same.1) in
        subst (λ (w : Y). (bytes ≡ text w ++ rest) × Fits w) same.0 (whole, fits c.value taken.1)

  pub arm_word : (word : List ℕ) (z : Y) → text z ≡ word → Fits z → (other : Option (Y × List ℕ)) → (Took other y rest → Spelled) → Took (fork (tag word bytes) (λ left. Some (z, left)) other) y rest → Spelled
  arm_word word z is fits other next h = by (fork_some (tag word bytes) (λ left. Some (z, left)) other (y, rest) h) where
    by : ((left : List ℕ) × (tag word bytes ≡ Some left) × Took (Some (z, left)) y rest) ⊎ Took other y rest → Spelled
    by (inr e) = next e
    by (inl (left, found, e)) =
        let same = some_pair_parts z y left rest e in
        let front = tag_takes word bytes left found in
        let whole : bytes ≡ text z ++ rest = cc (front, is, same.1) in
        subst (λ (w : Y). (bytes ≡ text w ++ rest) × Fits w) same.0 (whole, fits)

  pub arm_none : Took None y rest → Spelled
  arm_none h = absurd (none-some (y, rest) h)
