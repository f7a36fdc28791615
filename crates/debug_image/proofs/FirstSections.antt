-- The first sections of output sections, with one more section behind the others.
use Rattle.std.proofs.Common.{◌≡◌, ◌≤◌, ◌<◌, ◌+◌, ◌∙◌, ℕ, Bool, true, false, cond, ◌&&◌, List, [], ◌∷◌, ◌++◌, ap, arith, length, refl, sym}
use Rattle.std.specs.Prelude.{None, Option, Some, nat_le}
use Rattle.std.specs.List.{position_from}
use Rattle.std.specs.Option.{is_some, option_or}
use Rattle.std.specs.Str.{bytes_eq}
use Rattle.std.proofs.lemmas.Bool.{and_from, and_parts, false≢true}
use Rattle.std.proofs.lemmas.Slice.Eq.{bytes_eq-Decides}
use Rattle.indexmap.specs.IndexMap.{IndexMap, get}
use Rattle.elf_model.specs.Link.Pieces.{Piece, is_executable, is_nobits, is_thread_local, is_writable, output_name, same_bool}
use Rattle.elf_model.proofs.SameOutput.{both_ways_equal}
use Rattle.resolve.specs.OutputSections.{Output, output_of, output_view}
use Rattle.resolve.specs.declared.output_sections.OutputSection.{OutputSection}
use Rattle.resolve.proofs.OutputKeys.{key_eq, key_eq-compares}
use Rattle.debug_image.specs.Sections.{Section, are_alike, same_section, section_number}
use Rattle.debug_image.specs.SectionNumbers.{AreFirsts}

-- the first of a list with one more element
pub position_behind :
    {X : Type 0} (f : X → Bool) (n : ℕ) (xs : List X) (x : X) →
    position_from f n (xs ++ x ∷ []) ≡ option_or (position_from f n xs) (cond (f x) (Some (n + length xs)) None)
position_behind f n [] x = grind (arith)
position_behind {X} f n (y ∷ xs) x = by (f y) (position_behind f (n + 1) xs x)
  where
    by :
        (b : Bool) → position_from f (n + 1) (xs ++ x ∷ []) ≡ option_or (position_from f (n + 1) xs) (cond (f x) (Some (n + 1 + length xs)) None) →
        cond b (Some n) (position_from f (n + 1) (xs ++ x ∷ []))
        ≡ option_or (cond b (Some n) (position_from f (n + 1) xs)) (cond (f x) (Some (n + length (y ∷ xs))) None)
    by true e = refl
    by false e = e ∙ ap (λ (k : ℕ). option_or (position_from f (n + 1) xs) (cond (f x) (Some k) None)) (grind (arith))

first_behind :
    {X : Type 0} (f : X → Bool) (xs : List X) (x : X) →
    position_from f 0 (xs ++ x ∷ []) ≡ option_or (position_from f 0 xs) (cond (f x) (Some (length xs)) None)
first_behind f xs x =
    position_behind f 0 xs x ∙ ap (λ (n : ℕ). option_or (position_from f 0 xs) (cond (f x) (Some n) None)) (grind (arith))

same_refl : (b : Bool) → same_bool b b ≡ true
same_refl true = refl
same_refl false = refl

same_is : (a b : Bool) → a ≡ b → same_bool a b ≡ true
same_is a b e = rw (← e) (same_refl a)

is_same : (a b : Bool) → same_bool a b ≡ true → a ≡ b
is_same true true e = refl
is_same true false e = absurd (false≢true e)
is_same false true e = absurd (false≢true e)
is_same false false e = refl

together :
    (w x t z o n : Bool) → w ≡ true → x ≡ true → t ≡ true → z ≡ true → o ≡ true → n ≡ true → ((((w && x) && t) && z) && o) && n ≡ true
together w x t z o n is_w is_x is_t is_z is_o is_n =
    and_from ((((w && x) && t) && z) && o) n
    (and_from (((w && x) && t) && z) o (and_from ((w && x) && t) z (and_from (w && x) t (and_from w x is_w is_x) is_t) is_z) is_o)
    is_n

-- sections of objects are of one section of an image where what they have in common is the same
same_of :
    (count : ℕ) (q p : Piece) → nat_le count q.object ≡ nat_le count p.object → output_of q ≡ output_of p → same_section count q p ≡ true
same_of count q p own e =
    together (same_bool (is_writable q.header) (is_writable p.header)) (same_bool (is_executable q.header) (is_executable p.header))
    (same_bool (is_thread_local q.header) (is_thread_local p.header)) (same_bool (is_nobits q.header) (is_nobits p.header))
    (same_bool (nat_le count q.object) (nat_le count p.object)) (bytes_eq (output_name q.name) (output_name p.name))
    (same_is _ _ (ap (λ (k : Output). k.writable) e)) (same_is _ _ (ap (λ (k : Output). k.executable) e))
    (same_is _ _ (ap (λ (k : Output). k.thread_local) e)) (same_is _ _ (ap (λ (k : Output). k.nobits) e)) (same_is _ _ own)
    ((bytes_eq-Decides (output_name q.name) (output_name p.name)).1 (ap (λ (k : Output). k.name) e))

-- what is the same of pieces that are of one section
record AreOne (count : ℕ) (q p : Piece) : Type 0 where
  own : nat_le count q.object ≡ nat_le count p.object
  output : output_of q ≡ output_of p

of_same : (count : ℕ) (q p : Piece) → same_section count q p ≡ true → AreOne count q p
of_same count q p e =
    let w = same_bool (is_writable q.header) (is_writable p.header) in
    let x = same_bool (is_executable q.header) (is_executable p.header) in
    let t = same_bool (is_thread_local q.header) (is_thread_local p.header) in
    let z = same_bool (is_nobits q.header) (is_nobits p.header) in
    let o = same_bool (nat_le count q.object) (nat_le count p.object) in
    let n = bytes_eq (output_name q.name) (output_name p.name) in
    let e1 = and_parts (are_alike q.header p.header && o) n e in
    let e2 = and_parts (are_alike q.header p.header) o e1.0 in
    let e3 = and_parts ((w && x) && t) z e2.0 in
    let e4 = and_parts (w && x) t e3.0 in
    let e5 = and_parts w x e4.0 in
    let is_n = (bytes_eq-Decides (output_name q.name) (output_name p.name)).0 e1.1 in
    let is_w = is_same _ _ e5.0 in
    let is_x = is_same _ _ e5.1 in
    let is_t = is_same _ _ e4.1 in
    let is_z = is_same _ _ e3.1 in record {
      own = is_same _ _ e2.1;
      output = λ i. record { name = is_n i; writable = is_w i; executable = is_x i; thread_local = is_t i; nobits = is_z i };
    }

-- keys of output sections compare as the sections do
compared :
    (count : ℕ) (q p : Piece) (a b : OutputSection) → output_view a ≡ output_of q → output_view b ≡ output_of p →
    nat_le count q.object ≡ nat_le count p.object → key_eq a b ≡ same_section count q p
compared count q p a b of_q of_p own =
    both_ways_equal (key_eq a b) (same_section count q p)
    (λ e. same_of count q p own (sym of_q ∙ ((key_eq-compares a b).0 e ∙ of_p)))
    (λ e. (key_eq-compares a b).1 (of_q ∙ ((of_same count q p e).output ∙ sym of_p)))

not_true : (b : Bool) → (b ≡ true → ⊥) → b ≡ false
not_true true none = absurd (none refl)
not_true false none = refl

own_piece : (count object : ℕ) → object < count → nat_le count object ≡ false
own_piece count object less = not_true (nat_le count object) (λ e. grind (arith, less, e))

module _ {S : Type 0} (count : ℕ) (ss : List Section) (s : Section) (m : IndexMap OutputSection ℕ S) (are : AreFirsts count ss m) where
  -- where the new one isn't the section that is looked for, or an earlier one is, nothing changes
  stays :
      (p : Piece) (k : OutputSection) → output_view k ≡ output_of p → p.object < count → same_section count s.first.piece p ≡ false →
      get key_eq m k ≡ section_number count (ss ++ s ∷ []) p
  stays p k of_p own other =
      are p k of_p own
      ∙ (sym (none_more (section_number count ss p))
      ∙ (ap (λ (b : Bool). option_or (section_number count ss p) (cond b (Some (length ss)) None)) (sym other)
      ∙ sym (first_behind (λ r. same_section count r.first.piece p) ss s)))
    where
      none_more : (o : Option ℕ) → option_or o None ≡ o
      none_more None = refl
      none_more (Some n) = refl

  -- the GOT and the common blocks are of no section of an object
  pub first_other : count ≤ s.first.piece.object → AreFirsts count (ss ++ s ∷ []) m
  first_other not_own p k of_p own =
      stays p k of_p own
      (not_true _ (λ e. false≢true (sym (own_piece count p.object own) ∙ (sym (of_same count s.first.piece p e).own ∙ is_not_own))))
    where
      is_not_own : nat_le count s.first.piece.object ≡ true
      is_not_own = grind (arith, not_own)

  pub first_known :
      (key : OutputSection) → output_view key ≡ output_of s.first.piece → is_some (get key_eq m key) ≡ true → AreFirsts count (ss ++ s ∷ []) m
  first_known key of_s known p k of_p own = by (section_number count ss p) refl (same_section count s.first.piece p) refl
    where
      here :
          (o : Option ℕ) → section_number count ss p ≡ o →
          section_number count (ss ++ s ∷ []) p ≡ option_or o (cond (same_section count s.first.piece p) (Some (length ss)) None)
      here o is =
          first_behind (λ r. same_section count r.first.piece p) ss s
          ∙ ap (λ (x : Option ℕ). option_or x (cond (same_section count s.first.piece p) (Some (length ss)) None)) is

      by :
          (o : Option ℕ) → section_number count ss p ≡ o → (b : Bool) → same_section count s.first.piece p ≡ b →
          get key_eq m k ≡ section_number count (ss ++ s ∷ []) p
      by (Some j) is b same = are p k of_p own ∙ (is ∙ sym (here (Some j) is))
      by None is false same = stays p k of_p own same
      by None is true same =
          absurd
          (false≢true
          (sym (ap is_some (are p key (of_s ∙ (of_same count s.first.piece p same).output) own ∙ is)) ∙ known))

  pub first_new :
      {R : Type 0} (key : OutputSection) (new : IndexMap OutputSection ℕ R) → output_view key ≡ output_of s.first.piece → s.first.piece.object < count →
      is_some (get key_eq m key) ≡ false → ((k : OutputSection) → get key_eq new k ≡ cond (key_eq key k) (Some (length ss)) (get key_eq m k)) →
      AreFirsts count (ss ++ s ∷ []) new
  first_new key new of_s own_s none updated p k of_p own =
      updated k ∙ (ap (λ (b : Bool). cond b (Some (length ss)) (get key_eq m k)) same ∙ by (same_section count s.first.piece p) refl)
    where
      same : key_eq key k ≡ same_section count s.first.piece p
      same = compared count s.first.piece p key k of_s of_p (own_piece count s.first.piece.object own_s ∙ sym (own_piece count p.object own))

      gone : (o : Option ℕ) → is_some o ≡ false → o ≡ None
      gone None isnt = refl
      gone (Some n) isnt = absurd (false≢true (sym isnt))

      by : (b : Bool) → same_section count s.first.piece p ≡ b → cond (same_section count s.first.piece p) (Some (length ss)) (get key_eq m k) ≡ section_number count (ss ++ s ∷ []) p
      by false is = rw is (stays p k of_p own is)
      by true is =
          rw is
          (sym
          (first_behind (λ r. same_section count r.first.piece p) ss s
          ∙ (ap (λ (o : Option ℕ). option_or o (cond (same_section count s.first.piece p) (Some (length ss)) None)) (sym (are p key (of_s ∙ (of_same count s.first.piece p is).output) own) ∙ gone (get key_eq m key) none)
          ∙ ap (λ (b : Bool). cond b (Some (length ss)) None) is)))
