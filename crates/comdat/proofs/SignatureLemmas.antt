-- The signatures seen, against the keys of a set that holds them.
use Rattle.std.proofs.Common.{◌≡◌, ℕ, Bool, true, false, cond, not, ◌&&◌, ◌||◌, List, [], ◌∷◌, ◌++◌, refl, ap, sym, ◌∙◌}
use Rattle.std.specs.List.{list_any}
use Rattle.std.specs.Str.{bytes_eq}
use Rattle.std.proofs.lemmas.List.{map-append}
use Rattle.indexmap.specs.IndexSet.{insert_key}
use Rattle.elf_model.specs.Link.Groups.{is_comdat, is_seen, seen_with}
use Rattle.elf_model.specs.Inputs.ObjectFile.{Group}
use Rattle.elf_model.specs.declared.name.Name.{Name}
use Rattle.comdat.specs.Signatures.{names_of}

abbrev same_name : Name → Name → Bool
same_name x y = bytes_eq x.0.now y.0.now

not_not : (b : Bool) → not (not b) ≡ b
not_not true = refl
not_not false = refl

names_seen : (key : Name) (keys : List Name) → is_seen (names_of keys) key.0.now ≡ list_any (same_name key) keys
names_seen key [] = refl
names_seen key (k ∷ keys) = ap (λ b. same_name key k || b) (names_seen key keys)

-- whether a group's signature was seen, by what its insertion answers
pub seen_unless : (g : Group) (key : Name) (keys : List Name) (added : Bool) → key.0.now ≡ g.signature → added ≡ not (list_any (same_name key) keys)
    → is_seen (names_of keys) g.signature ≡ not added
seen_unless g key keys added same is =
    ap (is_seen (names_of keys)) (sym same) ∙ names_seen key keys ∙ sym (not_not (list_any (same_name key) keys)) ∙ ap not (sym is)

-- whether a COMDAT group is dropped
pub dropped_unless : (g : Group) (key : Name) (keys : List Name) (added : Bool) → is_comdat g ≡ true → key.0.now ≡ g.signature
    → added ≡ not (list_any (same_name key) keys) → (is_comdat g && is_seen (names_of keys) g.signature) ≡ not added
dropped_unless g key keys added comdat same is = λ j. comdat j && seen_unless g key keys added same is j

-- the signatures seen with those of a COMDAT group
pub names_inserted : (g : Group) (key : Name) (keys new : List Name) → is_comdat g ≡ true → key.0.now ≡ g.signature
    → new ≡ insert_key same_name keys key → names_of new ≡ seen_with (names_of keys) g
names_inserted g key keys new comdat same is =
    ap names_of is ∙ by (list_any (same_name key) keys)
    ∙ (λ j. cond (sym comdat j && not (sym seen j)) (names_of keys ++ g.signature ∷ []) (names_of keys))
  where
    seen : is_seen (names_of keys) g.signature ≡ list_any (same_name key) keys
    seen = ap (is_seen (names_of keys)) (sym same) ∙ names_seen key keys

    by : (b : Bool) → names_of (cond b keys (keys ++ key ∷ [])) ≡ cond (not b) (names_of keys ++ g.signature ∷ []) (names_of keys)
    by true = refl
    by false = map-append (λ (k : Name). k.0.now) keys (key ∷ []) ∙ ap (λ s. names_of keys ++ s ∷ []) same
