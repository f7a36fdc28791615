-- Code for the thread-local storage of shared objects: among the relocations of all sections and of those in the image.
use Rattle.std.proofs.Common.{◌≡◌, ◌++◌, Bool, List, [], ◌∷◌, ap, cond, false, refl, subst, sym, true, ◌∙◌}
use Rattle.std.specs.Prelude.{◌&&◌, ◌||◌, filter}
use Rattle.std.specs.List.{list_any}
use Rattle.std.proofs.lemmas.List.Folds.{list_any-append}
use Rattle.elf_model.specs.Link.Loading.{LoadedObject}
use Rattle.elf_model.specs.Link.Relocation.{relocations}
use Rattle.elf_model.specs.declared.link_map.DropLine.{DropLine}
use Rattle.judge_model.specs.Links.{ForeignLink, is_in_image_too, objects_of}
use Rattle.link_judge.specs.Judged.{has_shared_thread_code, is_shared_thread}
use Rattle.link_judge.specs.Rewritten.{is_shared_thread_in}

-- one of those that pass a test passes another exactly where one of all passes both
any_of_passing :
    {X : Type 0} (keeps test : X → Bool) (xs : List X) → list_any (λ x. keeps x && test x) xs ≡ list_any test (filter keeps xs)
any_of_passing {X} keeps test [] = refl
any_of_passing {X} keeps test (x ∷ xs) = by (keeps x) (any_of_passing keeps test xs)
  where
    by :
        (b : Bool) → list_any (λ y. keeps y && test y) xs ≡ list_any test (filter keeps xs) →
        ((b && test x) || list_any (λ y. keeps y && test y) xs) ≡ list_any test (cond b (x ∷ filter keeps xs) (filter keeps xs))
    by true rest = ap (λ (t : Bool). test x || t) rest
    by false rest = rest

-- What is left of a list: whether one of it passes a test is what it is of the whole list, one or a list more at a time.
module _ {X : Type 0} (test : X → Bool) (whole : Bool) (xs : List X) (left : list_any test xs ≡ whole) where
  list_parts : (a rest : List X) (b : Bool) → xs ≡ a ++ rest → list_any test a ≡ b → (b || list_any test rest) ≡ whole
  list_parts a rest b parts is =
      sym (ap (λ (t : Bool). t || list_any test rest) is)
      ∙ (sym (list_any-append test a rest) ∙ (ap (list_any test) (sym parts) ∙ left))

  pub none_in_part : (a rest : List X) → xs ≡ a ++ rest → list_any test a ≡ false → list_any test rest ≡ whole
  none_in_part a rest parts none = list_parts a rest false parts none

  pub some_in_part : (a rest : List X) → xs ≡ a ++ rest → list_any test a ≡ true → true ≡ whole
  some_in_part a rest parts some = list_parts a rest true parts some

  pub not_first : (x : X) (rest : List X) → xs ≡ x ∷ rest → test x ≡ false → list_any test rest ≡ whole
  not_first x rest parts none = sym (ap (λ (t : Bool). t || list_any test rest) none) ∙ (ap (list_any test) (sym parts) ∙ left)

  pub is_first : (x : X) (rest : List X) → xs ≡ x ∷ rest → test x ≡ true → true ≡ whole
  is_first x rest parts some = sym (ap (λ (t : Bool). t || list_any test rest) some) ∙ (ap (list_any test) (sym parts) ∙ left)

  pub none_left : xs ≡ [] → false ≡ whole
  none_left none = sym (ap (list_any test) none) ∙ left

pub shared_in_image :
    (l : ForeignLink) (objects : List LoadedObject) (drops : List DropLine) → objects_of l ≡ objects → l.certificate.drops ≡ drops →
    list_any (is_shared_thread_in drops) (relocations objects) ≡ has_shared_thread_code l
shared_in_image l objects drops same dropped =
    subst (λ (os : List LoadedObject). list_any (is_shared_thread_in drops) (relocations os) ≡ has_shared_thread_code l) same
    (subst (λ (ds : List DropLine). list_any (is_shared_thread_in ds) (relocations (objects_of l)) ≡ has_shared_thread_code l) dropped
    (any_of_passing (is_in_image_too l) is_shared_thread (relocations (objects_of l))))
