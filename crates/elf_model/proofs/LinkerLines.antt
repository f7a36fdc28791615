-- What the linker defines for the names of a set: the lines of its names.
use Rattle.std.proofs.Common.{◌≡◌, ℕ, ◌≤◌, ◌||◌, Bool, true, false, cond, get_or, List, [], ◌∷◌, ◌++◌, Option, None, Some, refl, sym, ap, ◌∙◌, arith}
use Rattle.std.specs.Prelude.{All, count_by, find, option_map, option_to_list}
use Rattle.std.specs.BTreeSet.{BTreeSet, IsOrdered}
use Rattle.std.specs.BTreeMap.{is_at}
use Rattle.std.specs.Borrow.{Bor}
use Rattle.std.specs.Cmp.Lexicographic.{slice_cmp}
use Rattle.std.specs.List.{list_any}
use Rattle.std.specs.List.Sorted.{IsStrictlySortedBy}
use Rattle.std.specs.Ordering.{nat_cmp}
use Rattle.std.specs.declared.cmp.Ordering.TheVariants.{Equal, Less}
use Rattle.std.specs.Str.{bytes_eq}
use Rattle.std.proofs.lemmas.Bool.{false≢true}
use Rattle.std.proofs.lemmas.Cmp.{nat_list_cmp_total, tied_itself}
use Rattle.std.proofs.lemmas.Map.Keys.{sorted_tail}
use Rattle.std.proofs.lemmas.Map.Text.{is_eq-slice_cmp}
use Rattle.std.proofs.lemmas.Map.Views.{All-after_first}
use Rattle.std.proofs.lemmas.Slice.Eq.{bytes_eq-Decides}
use Rattle.elf_model.proofs.LinkerUses.{line_among}
use Rattle.elf_model.proofs.RisingNames.{absent_count, counted}
use Rattle.elf_model.specs.Link.LinkerNames.{bound_of}
use Rattle.elf_model.specs.Link.Listing.{AreLinkerLines, has_meaning}
use Rattle.elf_model.specs.Link.Loading.{LoadedObject}
use Rattle.elf_model.specs.Link.Meaning.{Linker, Meaning}
use Rattle.elf_model.specs.Link.Relocation.{relocations}
use Rattle.elf_model.specs.Link.UsedNames.{is_among, linker_meaning, linker_meanings, uses_line}
use Rattle.elf_model.specs.declared.bound.Bound.{Bound}

abbrev Name : Type 0
Name = Bor (List ℕ)

-- a comparison of names the other way round
turned : (a b : List ℕ) (t : Bool) → bytes_eq a b ≡ t → bytes_eq b a ≡ t
turned a b true e = (bytes_eq-Decides b a).1 (sym ((bytes_eq-Decides a b).0 e))
turned a b false e = by (bytes_eq b a) refl
  where
    by : (t : Bool) → bytes_eq b a ≡ t → bytes_eq b a ≡ false
    by true f = absurd (false≢true (sym e ∙ (bytes_eq-Decides a b).1 (sym ((bytes_eq-Decides b a).0 f))))
    by false f = f

module _ (L : List LoadedObject) (n : List ℕ) where
  abbrev has_key : Name → Bool
  has_key k = is_at (λ (q : Name). slice_cmp nat_cmp n q.now) k

  abbrev is_key : Name → Bool
  is_key k = bytes_eq k.now n

  key_is : (k : Name) → has_key k ≡ is_key k
  key_is k = is_eq-slice_cmp n k.now ∙ sym (turned n k.now (bytes_eq n k.now) refl)

  found : (ks : List Name) → find (has_meaning n) (linker_meanings L ks) ≡ cond {A = Option Meaning} (list_any has_key ks) (linker_meaning L n) None
  found [] = refl
  found (k ∷ ks) =
      by (is_key k) refl (found ks)
      ∙ ap (λ (t : Bool). cond {A = Option Meaning} (t || list_any has_key ks) (linker_meaning L n) None) (sym (key_is k))
    where
      behind : List Meaning
      behind = linker_meanings L ks

      nothing : (b : Bool) → cond {A = Option Meaning} b None None ≡ None
      nothing true = refl
      nothing false = refl

      own : (b : Bool) (o : Option Bound) → find (has_meaning n) behind ≡ cond {A = Option Meaning} b (option_map (Linker n) o) None →
          find (has_meaning n) (option_to_list (option_map (Linker n) o) ++ behind) ≡ option_map (Linker n) o
      own b None so = so ∙ nothing b
      own b (Some x) so =
          ap (λ (t : Bool). cond {A = Option Meaning} t (Some (Linker n x)) (find (has_meaning n) behind)) ((bytes_eq-Decides n n).1 refl)

      other : (o : Option Bound) → is_key k ≡ false → find (has_meaning n) (option_to_list (option_map (Linker k.now) o) ++ behind) ≡ find (has_meaning n) behind
      other None e = refl
      other (Some x) e = ap (λ (t : Bool). cond {A = Option Meaning} t (Some (Linker k.now x)) (find (has_meaning n) behind)) e

      by :
          (t : Bool) → is_key k ≡ t → find (has_meaning n) behind ≡ cond {A = Option Meaning} (list_any has_key ks) (linker_meaning L n) None →
          find (has_meaning n) (option_to_list (linker_meaning L k.now) ++ behind)
          ≡ cond {A = Option Meaning} (is_key k || list_any has_key ks) (linker_meaning L n) None
      by true e so =
          ap (λ (m : List ℕ). find (has_meaning n) (option_to_list (linker_meaning L m) ++ behind)) ((bytes_eq-Decides k.now n).0 e)
          ∙ own (list_any has_key ks) (bound_of L n) so
          ∙ ap (λ (b : Bool). cond {A = Option Meaning} (b || list_any has_key ks) (linker_meaning L n) None) (sym e)
      by false e so =
          other (bound_of L k.now) e
          ∙ so
          ∙ ap (λ (b : Bool). cond {A = Option Meaning} (b || list_any has_key ks) (linker_meaning L n) None) (sym e)

  lines_few : (ks : List Name) → count_by (has_meaning n) (linker_meanings L ks) ≤ count_by is_key ks
  lines_few [] = omega arith
  lines_few (k ∷ ks) = by (bound_of L k.now) (lines_few ks)
    where
      by :
          (o : Option Bound) → count_by (has_meaning n) (linker_meanings L ks) ≤ count_by is_key ks →
          count_by (has_meaning n) (option_to_list (option_map (Linker k.now) o) ++ linker_meanings L ks) ≤ count_by is_key (k ∷ ks)
      by None rest = let c = counted is_key k ks in omega (arith, c, rest)
      by (Some x) rest =
          let c = counted is_key k ks in
          let d = counted (has_meaning n) (Linker k.now x) (linker_meanings L ks) in
          omega (arith, c, d, rest)

  -- keys in order are no name twice
  later_other : (k : Name) (q : Name) → is_key k ≡ true → slice_cmp nat_cmp k.now q.now ≡ Less → is_key q ≡ false
  later_other k q e less = by (is_key q) refl
    where
      by : (t : Bool) → is_key q ≡ t → is_key q ≡ false
      by false f = f
      by true f =
          let k_is = (bytes_eq-Decides k.now n).0 e in
          let q_is = (bytes_eq-Decides q.now n).0 f in
          let clash : Less ≡ Equal =
          sym less ∙ ap (λ (m : List ℕ). slice_cmp nat_cmp k.now m) (q_is ∙ sym k_is) ∙ tied_itself nat_list_cmp_total k.now in
          absurd (cc)

  keys_few : (ks : List Name) → IsStrictlySortedBy (λ (a b : Name). slice_cmp nat_cmp a.now b.now) ks → count_by is_key ks ≤ 1
  keys_few [] up = omega arith
  keys_few (k ∷ ks) up =
      by (is_key k) refl (keys_few ks (sorted_tail (λ (a b : Name). slice_cmp nat_cmp a.now b.now) k ks up))
    where
      above : All (λ (q : Name). slice_cmp nat_cmp k.now q.now ≡ Less) ks
      above = All-after_first (λ (a b : Name). slice_cmp nat_cmp a.now b.now) k ks up

      by : (t : Bool) → is_key k ≡ t → count_by is_key ks ≤ 1 → count_by is_key (k ∷ ks) ≤ 1
      by true e rest =
          let none = absent_count is_key ks (λ i d within. later_other k (get_or ks i d) e (above i d within)) in
          let c = counted is_key k ks in
          let t = ap {B = ℕ} (λ b. cond b 1 0) e in
          omega (arith, none, c, t)
      by false e rest =
          let c = counted is_key k ks in
          let t = ap {B = ℕ} (λ b. cond b 1 0) e in
          omega (arith, c, t, rest)

-- what the linker defines for the names that relocations use is its lines
pub lines_are :
    (L : List LoadedObject) (names : BTreeSet Name) → IsOrdered (λ (a b : Name). slice_cmp nat_cmp a.now b.now) names →
    ((n : List ℕ) → is_among names n ≡ list_any (uses_line L n) (relocations L)) → AreLinkerLines L (linker_meanings L names.keys)
lines_are L names up has = record {
  found = λ n. found L n names.keys ∙ line_among L names has n;
  once = λ n. let few = lines_few L n names.keys in let one = keys_few L n names.keys up in omega (arith, few, one);
}
