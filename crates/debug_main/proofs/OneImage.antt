-- The link of files by words has one image for tools.
use Rattle.std.proofs.Common.{◌≡◌, ◌∙◌, ℕ, List, [], ◌∷◌, ap, get_or, map, refl, subst, sym}
use Rattle.std.specs.Prelude.{All, Ok, Result, Some, find, option_map}
use Rattle.std.specs.List.{slice_get}
use Rattle.std.proofs.lemmas.Simd.{map-map}
use Rattle.std.proofs.lemmas.List.Elements.{All-head, All-tail}
use Rattle.std.proofs.lemmas.Option.{same_Some}
use Rattle.std.proofs.lemmas.Slice.Eq.{bytes_eq-Decides}
use Rattle.elf_model.specs.Inputs.Command.{Plan}
use Rattle.elf_model.specs.Inputs.Files.{File}
use Rattle.elf_model.specs.declared.faults.CmdFault.{CmdFault}
use Rattle.elf_model.specs.Image.MapRecord.{SymbolRow}
use Rattle.elf_model.specs.Image.RightLink.{symbol_row_of}
use Rattle.elf_model.specs.Link.Listing.{has_meaning, listed}
use Rattle.elf_model.specs.Link.Loading.{LoadedObject, loaded_objects}
use Rattle.elf_model.specs.Link.Meaning.{Meaning, meaning_name}
use Rattle.elf_model.specs.Link.Placement.{Where}
use Rattle.elf_model.specs.Own.OwnLayout.{own_where}
use Rattle.elf_model.proofs.Found.{find-map}
use Rattle.elf_model.proofs.RisingNames.{all_found, has, rises_from_ascends, same_from_look_ups}
use Rattle.image_write.specs.Linkages.{Linked}
use Rattle.image_write.specs.Listings.{IsListing}
use Rattle.linker.specs.InOrder.{AreInOrder}
use Rattle.linker.specs.Linkages.{IsPrepared}
use Rattle.linker.proofs.InOrderLaws.{from_listing}
use Rattle.linker.proofs.OwnSpelled.{rise}
use Rattle.resolve.specs.Views.{meaning_views}
use Rattle.resolve.specs.declared.definition.Definition as code
use Rattle.debug_image.specs.DebugImage.{CanBeSaid, debug_file, joined_in, rows_in, tables_in}
use Rattle.debug_image.specs.DebugSections.{AreFew}
use Rattle.debug_image.specs.Tables.{IsSmall, Tables}
use Rattle.debug_image.specs.declared.debug_file.Wanted.{Wanted}
use Rattle.debug_main.specs.Verdicts.{IsDifference, IsToolImage}
use Rattle.debug_main.specs.declared.verdict.Difference.{Difference}

same_head : {X : Type 0} (x y : X) (xs ys : List X) → x ∷ xs ≡ y ∷ ys → x ≡ y
same_head x y xs ys e = cc

same_tail : {X : Type 0} (x y : X) (xs ys : List X) → x ∷ xs ≡ y ∷ ys → xs ≡ ys
same_tail x y xs ys e = cc

nil_cons : {X : Type 0} (x : X) (xs : List X) → [] ≡ x ∷ xs → ⊥
nil_cons x xs e = cc

-- What names mean in their order is given by the names.
module _ (objects : List LoadedObject) where
  abbrev w : Where
  w = own_where 0 objects

  -- a name is looked up to its row
  row_found : (ms : List Meaning) → AreInOrder objects ms → (n : List ℕ) → find (has n) (map (symbol_row_of w) ms) ≡ option_map (symbol_row_of w) (listed objects n)
  row_found ms is n = find-map (has n) (symbol_row_of w) ms ∙ ap (option_map (symbol_row_of w)) (is.listed.found n)

  same_rows : (ms ns : List Meaning) → AreInOrder objects ms → AreInOrder objects ns → map (symbol_row_of w) ms ≡ map (symbol_row_of w) ns
  same_rows ms ns is js =
      same_from_look_ups (map (symbol_row_of w) ms) (map (symbol_row_of w) ns) (rises_from_ascends _ (rise (record { base = 0; objects = objects }) ms is))
      (rises_from_ascends _ (rise (record { base = 0; objects = objects }) ns js)) (λ n. row_found ms is n ∙ sym (row_found ns js n))

  names_of_rows : (ms : List Meaning) → map (λ r. r.name) (map (symbol_row_of w) ms) ≡ map meaning_name ms
  names_of_rows ms = map-map (λ (r : SymbolRow). r.name) (symbol_row_of w) ms

  -- each is what its name means
  own_name : (ms : List Meaning) → AreInOrder objects ms → All (λ m. listed objects (meaning_name m) ≡ Some m) ms
  own_name ms is k d within =
      let m : Meaning = get_or ms k d in
      let n = meaning_name m in
      sym (is.listed.found n) ∙ all_found (has_meaning n) ms (is.listed.once n) k d within ((bytes_eq-Decides n n).1 refl)

  by_names :
      (ms ns : List Meaning) → All (λ m. listed objects (meaning_name m) ≡ Some m) ms → All (λ m. listed objects (meaning_name m) ≡ Some m) ns →
      map meaning_name ms ≡ map meaning_name ns → ms ≡ ns
  by_names [] [] is js e = refl
  by_names [] (n ∷ ns) is js e = absurd (nil_cons (meaning_name n) (map meaning_name ns) e)
  by_names (m ∷ ms) [] is js e = absurd (nil_cons (meaning_name m) (map meaning_name ms) (sym e))
  by_names (m ∷ ms) (n ∷ ns) is js e =
      let name : meaning_name m ≡ meaning_name n = same_head (meaning_name m) (meaning_name n) (map meaning_name ms) (map meaning_name ns) e in
      let own : listed objects (meaning_name m) ≡ Some m = All-head (λ m. listed objects (meaning_name m) ≡ Some m) m ms is in
      let other : listed objects (meaning_name n) ≡ Some n = All-head (λ m. listed objects (meaning_name m) ≡ Some m) n ns js in
      let first : m ≡ n = same_Some m n (sym own ∙ (ap (listed objects) name ∙ other)) in
      let rest : ms ≡ ns =
      by_names ms ns (All-tail (λ m. listed objects (meaning_name m) ≡ Some m) m ms is) (All-tail (λ m. listed objects (meaning_name m) ≡ Some m) n ns js)
      (same_tail (meaning_name m) (meaning_name n) (map meaning_name ms) (map meaning_name ns) e) in
      λ i. first i ∷ rest i

  pub one_listing : (xs ys : List code.Definition) → IsListing objects xs → IsListing objects ys → meaning_views xs ≡ meaning_views ys
  one_listing xs ys is js =
      let ms : List Meaning = meaning_views xs in
      let ns : List Meaning = meaning_views ys in
      let x = from_listing objects xs is in
      let y = from_listing objects ys js in
      by_names ms ns (own_name ms x) (own_name ns y) (sym (names_of_rows ms) ∙ (ap (map (λ (r : SymbolRow). r.name)) (same_rows ms ns x y) ∙ names_of_rows ns))

-- two links of the same files and words have one plan and the same objects
pub same_ok : (p q : Plan) (r : Result Plan CmdFault) → r ≡ Ok p → r ≡ Ok q → p ≡ q
same_ok p q r a b = let e : Ok p ≡ Ok q = sym a ∙ b in cc

one_plan : (files : List File) (words : List (List ℕ)) (l k : Linked) → IsPrepared files words l → IsPrepared files words k → l.plan ≡ k.plan
one_plan files words l k is js =
    same_ok l.plan k.plan _ is.linkable.before.before.before.before.before.before.words_are js.linkable.before.before.before.before.before.before.words_are

abbrev link_by : Plan → List LoadedObject → Linked
link_by plan objects = record { plan = plan; objects = objects; names = []; listed = [] }

-- and so all that a plan, objects and what their names mean decide is one
module _ (files : List File) (words : List (List ℕ)) (w : Wanted) (l k : Linked) (xs ys : List code.Definition) (is : IsPrepared files words l) (js : IsPrepared files words k) (a : IsListing l.objects xs) (b : IsListing k.objects ys) where
  plan_is : l.plan ≡ k.plan
  plan_is = one_plan files words l k is js

  objects_are : l.objects ≡ k.objects
  objects_are = is.objects ∙ (ap (loaded_objects files) plan_is ∙ sym js.objects)

  names_are : meaning_views xs ≡ meaning_views ys
  names_are = one_listing k.objects xs ys (subst (λ (os : List LoadedObject). IsListing os xs) objects_are a) b

  one_file : debug_file w l (meaning_views xs) ≡ debug_file w k (meaning_views ys)
  one_file = λ i. debug_file w (link_by (plan_is i) (objects_are i)) (names_are i)

  pub one_said : CanBeSaid w l (meaning_views xs) → CanBeSaid w k (meaning_views ys)
  one_said said = record {
    small = subst (λ (t : Tables). IsSmall t) (λ i. tables_in w (link_by (plan_is i) (objects_are i)) (names_are i)) said.small;
    few = subst (λ (os : List LoadedObject). AreFew (rows_in w os) (joined_in w os)) objects_are said.few;
  }

pub one_image :
    (files : List File) (words : List (List ℕ)) (w : Wanted) (x y : List ℕ) → IsToolImage files words w x → IsToolImage files words w y → x ≡ y
one_image files words w x y a b = a.is ∙ (one_file files words w a.link b.link a.names b.names a.prepared b.prepared a.listing b.listing ∙ sym b.is)

-- what differs from it isn't it
differs : (x y : List ℕ) (d : Difference) → IsDifference x y d → x ≡ y → ⊥
differs x y d is e = is.differs (is.there ∙ (ap (λ (l : List ℕ). slice_get l d.offset) e ∙ sym is.wanted_is))

pub no_other :
    (files : List File) (words : List (List ℕ)) (w : Wanted) (image wanted : List ℕ) (d : Difference) → IsToolImage files words w wanted → IsDifference image wanted d →
    IsToolImage files words w image → ⊥
no_other files words w image wanted d one is same = differs image wanted d is (one_image files words w image wanted same one)
