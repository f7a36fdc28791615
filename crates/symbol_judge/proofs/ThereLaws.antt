-- The names that a table has to have are among those of its entries exactly where entries have them.
use Rattle.std.proofs.Common.{◌≡◌, ◌∙◌, ℕ, true, List, sym}
use Rattle.std.specs.Prelude.{◌↔◌, All, Any}
use Rattle.std.specs.List.{list_any}
use Rattle.std.specs.Str.{bytes_eq}
use Rattle.std.proofs.lemmas.List.Elements.{All-weaker}
use Rattle.std.proofs.lemmas.List.Folds.{Any-from_list_any, list_any-from_Any}
use Rattle.std.proofs.lemmas.Slice.Eq.{bytes_eq-Decides}
use Rattle.elf_model.specs.Link.Resolution.{all_symbols}
use Rattle.check_load.specs.NameNumbers.{is_among}
use Rattle.judge_model.specs.Links.{ForeignLink, objects_of, placed_of}
use Rattle.judge_model.specs.Tables.{AreThere, has_this_name, image_sections, image_symbols, is_tabled, strings_of}
use Rattle.symbol_judge.specs.Names.{is_name_of}
use Rattle.symbol_judge.specs.There.{IsThere}

turned : (a b : List ℕ) → bytes_eq a b ≡ true → bytes_eq b a ≡ true
turned a b e = (bytes_eq-Decides b a).1 (sym ((bytes_eq-Decides a b).0 e))

pub any_weaker : {X : Type 0} (P Q : X → Type 0) → ((x : X) → P x → Q x) → (xs : List X) → Any P xs → Any Q xs
any_weaker P Q weaker xs (i, x, low, is, p) = (i, x, low, is, weaker x p)

module _ (l : ForeignLink) (names : List (List ℕ)) (among : (n : List ℕ) → is_among names n ≡ list_any (is_name_of (strings_of l.image (image_sections l.image)) n) (image_symbols l.image)) where
  abbrev strings : List ℕ
  strings = strings_of l.image (image_sections l.image)

  to : (n : List ℕ) → is_among names n ≡ true → Any (λ e. has_this_name l n e ≡ true) (image_symbols l.image)
  to n there =
      any_weaker (λ e. is_name_of strings n e ≡ true) (λ e. has_this_name l n e ≡ true) (λ e h. turned n _ h) (image_symbols l.image)
      (Any-from_list_any (is_name_of strings n) (image_symbols l.image) (sym (among n) ∙ there))

  from : (n : List ℕ) → Any (λ e. has_this_name l n e ≡ true) (image_symbols l.image) → is_among names n ≡ true
  from n some =
      among n
      ∙ list_any-from_Any (is_name_of strings n) (image_symbols l.image)
      (any_weaker (λ e. has_this_name l n e ≡ true) (λ e. is_name_of strings n e ≡ true) (λ e h. turned _ n h) (image_symbols l.image) some)

  pub there_iff : All (IsThere (objects_of l) (placed_of l) l.certificate.merged names) (all_symbols (objects_of l)) ↔ AreThere l
  there_iff = (
    λ all.
        All-weaker (IsThere (objects_of l) (placed_of l) l.certificate.merged names)
        (λ s. is_tabled l s ≡ true → Any (λ e. has_this_name l s.name e ≡ true) (image_symbols l.image))
        (λ s h tabled. to s.name (h.there tabled)) (all_symbols (objects_of l)) all,
    λ all.
        All-weaker (λ s. is_tabled l s ≡ true → Any (λ e. has_this_name l s.name e ≡ true) (image_symbols l.image))
        (IsThere (objects_of l) (placed_of l) l.certificate.merged names) (λ s h. record { there = λ tabled. from s.name (h tabled) }) (all_symbols (objects_of l)) all,
  )
