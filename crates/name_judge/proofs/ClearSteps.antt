-- A claim on a list as a claim on what a walk has noted and one on what is left: the steps of its loop.
use Rattle.std.proofs.Common.{ℕ, ◌+◌, ◌<◌, ◌≤◌, List, length, get_or, drop, subst, sym}
use Rattle.std.specs.Prelude.{◌↔◌, All}
use Rattle.std.proofs.lemmas.List.{drop_all}
use Rattle.std.proofs.lemmas.List.Elements.{All-cons, All-head, All-nil, All-tail}
use Rattle.elf_model.proofs.Rests.{rest_at}

module _ {X : Type 0} (P : X → Type 0) (xs : List X) where
  pub noted_none : (S : Type 0) → S → (S × All P xs) ↔ All P xs
  noted_none S s = (λ h. h.1, λ all. (s, all))

  pub noted_more :
      (S T Q : Type 0) (i : ℕ) (d : X) → i < length xs → T ↔ (S × P (get_or xs i d)) → (S × All P (drop i xs)) ↔ Q →
      (T × All P (drop (i + 1) xs)) ↔ Q
  noted_more S T Q i d within step rest = (
    λ h.
        rest.0 (
          (step.0 h.0).0,
          subst (All P) (sym (rest_at xs i d within)) (All-cons P (get_or xs i d) (drop (i + 1) xs) (step.0 h.0).1 h.1),
        ),
    λ q.
        let r = rest.1 q in
        let all = subst (All P) (rest_at xs i d within) r.1 in
        (step.1 (r.0, All-head P (get_or xs i d) (drop (i + 1) xs) all), All-tail P (get_or xs i d) (drop (i + 1) xs) all),
  )

  pub noted_all : (S Q : Type 0) (i : ℕ) → length xs ≤ i → (S × All P (drop i xs)) ↔ Q → S ↔ Q
  noted_all S Q i behind rest = (λ s. rest.0 (s, subst (All P) (sym (drop_all i xs behind)) (All-nil P)), λ q. (rest.1 q).0)
