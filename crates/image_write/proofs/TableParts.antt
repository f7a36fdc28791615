-- A symbol table put part by part: the entries and names of a list are those of its first definition, then those of the rest.
use Rattle.std.proofs.Common.{◌≡◌, ℕ, ◌+◌, ◌<◌, ◌^◌, Bool, true, false, List, [], ◌∷◌, ◌++◌, drop, get_or, length, refl, sym, ◌∙◌, ap, arith}
use Rattle.std.specs.List.{flat_map}
use Rattle.std.proofs.lemmas.List.{append-nil, length-append}
use Rattle.elf_model.specs.Link.Loading.{LoadedObject}
use Rattle.elf_model.specs.Link.Meaning.{Meaning, is_in_thread_storage, meaning_name}
use Rattle.elf_model.specs.Link.Placement.{Where}
use Rattle.elf_model.specs.Inputs.Records.{symbol_bytes}
use Rattle.elf_model.specs.Image.SymbolTable.{ended, entries_from, entry_of, has_entry}
use Rattle.elf_model.proofs.Rests.{rest_at}
use Rattle.resolve.specs.Views.{held_name, meaning_view, meaning_views}
use Rattle.resolve.specs.declared.definition.Definition as code
use Rattle.resolve.specs.declared.definition.Definition.TheVariants as variant
use Rattle.image_write.specs.Tables.{entered, entry_bytes, name_bytes}

module _ (objects : List LoadedObject) (m : Meaning) (ms : List Meaning) where
  pub names_more : name_bytes objects (m ∷ ms) ≡ name_bytes objects (m ∷ []) ++ name_bytes objects ms
  names_more = by (has_entry objects m) refl
    where
      by : (b : Bool) → has_entry objects m ≡ b → name_bytes objects (m ∷ ms) ≡ name_bytes objects (m ∷ []) ++ name_bytes objects ms
      by true e =
          rw e (ap (λ (xs : List ℕ). xs ++ name_bytes objects ms) (sym (append-nil (ended (meaning_name m)))))
      by false e = rw e refl

  pub entries_more :
      (w : Where) (at : ℕ) →
      entry_bytes w objects at (m ∷ ms)
      ≡ entry_bytes w objects at (m ∷ []) ++ entry_bytes w objects (at + length (name_bytes objects (m ∷ []))) ms
  entries_more w at = by (has_entry objects m) refl
    where
      by :
          (b : Bool) → has_entry objects m ≡ b →
          entry_bytes w objects at (m ∷ ms)
          ≡ entry_bytes w objects at (m ∷ []) ++ entry_bytes w objects (at + length (name_bytes objects (m ∷ []))) ms
      by true e =
          let n = length-append (meaning_name m) (0 ∷ []) in
          let k : at + (length (meaning_name m) + 1) ≡ at + length (ended (meaning_name m) ++ []) =
          ap (λ (x : ℕ). at + x) (sym n) ∙ ap (λ (xs : List ℕ). at + length xs) (sym (append-nil (ended (meaning_name m)))) in
          rw e
          (ap (λ (xs : List ℕ). xs ++ flat_map symbol_bytes (entries_from w (at + (length (meaning_name m) + 1)) (entered objects ms)))
          (sym (append-nil (symbol_bytes (entry_of w at m))))
          ∙ ap (λ (i : ℕ). (symbol_bytes (entry_of w at m) ++ []) ++ flat_map symbol_bytes (entries_from w i (entered objects ms))) k)
      by false e =
          let k : at ≡ at + 0 = omega arith in
          rw e (ap (λ (i : ℕ). entry_bytes w objects i ms) k)

-- from one definition of a list on
module _ (objects : List LoadedObject) (xs : List code.Definition) (i : ℕ) (d : code.Definition) (within : i < length xs) where
  abbrev first : Meaning
  first = meaning_view (get_or xs i d)

  abbrev behind : List Meaning
  behind = meaning_views (drop (i + 1) xs)

  pub names_left : name_bytes objects (meaning_views (drop i xs)) ≡ name_bytes objects (first ∷ []) ++ name_bytes objects behind
  names_left = ap (λ (ys : List code.Definition). name_bytes objects (meaning_views ys)) (rest_at xs i d within) ∙ names_more objects first behind

  pub entries_left :
      (w : Where) (at : ℕ) →
      entry_bytes w objects at (meaning_views (drop i xs))
      ≡ entry_bytes w objects at (first ∷ []) ++ entry_bytes w objects (at + length (name_bytes objects (first ∷ []))) behind
  entries_left w at =
      ap (λ (ys : List code.Definition). entry_bytes w objects at (meaning_views ys)) (rest_at xs i d within) ∙ entries_more objects first behind w at

  -- the room for all names is room for the first and the rest
  pub room_left :
      (at : ℕ) →
      at + length (name_bytes objects (meaning_views (drop i xs)))
      ≡ (at + length (name_bytes objects (first ∷ []))) + length (name_bytes objects behind)
  room_left at =
      let n = ap length names_left ∙ length-append (name_bytes objects (first ∷ [])) (name_bytes objects behind) in
      omega (arith, n)

  -- where it is below a limit, so is that of the first, and of the rest behind it
  pub room_first :
      (at : ℕ) → at + length (name_bytes objects (meaning_views (drop i xs))) < 2 ^ 32 → at + length (name_bytes objects (first ∷ [])) < 2 ^ 32
  room_first at room = let all = room_left at in omega (arith, all, room)

  pub room_rest :
      (at k : ℕ) → at + length (name_bytes objects (meaning_views (drop i xs))) < 2 ^ 32 → k ≡ at + length (name_bytes objects (first ∷ [])) →
      k + length (name_bytes objects behind) < 2 ^ 32
  room_rest at k room is = let all = room_left at in omega (arith, all, room, is)

  pub count_left : length (entered objects (meaning_views (drop i xs))) ≡ length (entered objects (first ∷ [])) + length (entered objects behind)
  count_left =
      ap (λ (ys : List code.Definition). length (entered objects (meaning_views ys))) (rest_at xs i d within)
      ∙ by (has_entry objects first) refl
    where
      by :
          (b : Bool) → has_entry objects first ≡ b →
          length (entered objects (first ∷ behind)) ≡ length (entered objects (first ∷ [])) + length (entered objects behind)
      by true e = rw e (omega arith)
      by false e = rw e (omega arith)

-- the name of a definition, as the code holds it
pub held_is : (m : code.Definition) → (held_name m).now ≡ meaning_name (meaning_view m)
held_is (variant.Symbol s) = refl
held_is (variant.Common b) = refl
held_is (variant.Linker name bound) = refl

-- a definition in thread-local storage has no entry, another one has
module _ (objects : List LoadedObject) (m : Meaning) where
  pub none_entered : is_in_thread_storage objects m ≡ true → entered objects (m ∷ []) ≡ []
  none_entered e = rw e refl

  pub one_entered : is_in_thread_storage objects m ≡ false → entered objects (m ∷ []) ≡ m ∷ []
  one_entered e = rw e refl

  pub no_name : is_in_thread_storage objects m ≡ true → name_bytes objects (m ∷ []) ≡ []
  no_name e = rw e refl

  pub its_name : is_in_thread_storage objects m ≡ false → name_bytes objects (m ∷ []) ≡ meaning_name m ++ 0 ∷ []
  its_name e = rw e (append-nil (ended (meaning_name m)))
