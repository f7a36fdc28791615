-- What a map by hash has for each name after a write at one of them.
use Rattle.std.proofs.Common.{◌≡◌, ℕ, Bool, true, false, cond, List, ◌∙◌, refl, subst, sym, Option}
use Rattle.std.proofs.lemmas.Slice.Eq.{bytes_eq-Decides}
use Rattle.std.specs.Cmp.Lexicographic.{nat_list_eq_equiv}
use Rattle.std.specs.HashMap.{HashMap, Updates}
use Rattle.std.specs.Map.{AreApart, IsKeyTest, KeepsOthers, lookup}
use Rattle.std.specs.Str.{bytes_eq}
use Rattle.elf_model.specs.declared.name.Name.{Name}

-- names that differ are equal to no name together
apart : (a b : List ℕ) (k : Name) → bytes_eq a b ≡ false → bytes_eq a k.0.now ≡ true → bytes_eq b k.0.now ≡ false
apart a b k differ same = nat_list_eq_equiv.symm b k.0.now ∙ sym (nat_list_eq_equiv.congr a k.0.now b same) ∙ differ

module _ {X : Type 0} where
  other_entries :
      (test : Name → Bool) (old new : List (Name × X)) → KeepsOthers (λ x y. bytes_eq x.0.now y.0.now) test old new → (other : Name → Bool) →
      IsKeyTest (λ x y. bytes_eq x.0.now y.0.now) other → AreApart test other → lookup other new ≡ lookup other old
  unfolding KeepsOthers
  other_entries test old new h = h

  pub entries_updated :
      {S : Type 0} (m n : HashMap Name X S) (name : Name) (w : Option X) → Updates (λ x y. bytes_eq x.0.now y.0.now) m n name w →
      (other : List ℕ) →
      lookup (λ k. bytes_eq other k.0.now) n.entries ≡ cond (bytes_eq name.0.now other) w (lookup (λ k. bytes_eq other k.0.now) m.entries)
  entries_updated m n name w h other = by (bytes_eq name.0.now other) refl
    where
      by :
          (b : Bool) → bytes_eq name.0.now other ≡ b →
          lookup (λ k. bytes_eq other k.0.now) n.entries ≡ cond b w (lookup (λ k. bytes_eq other k.0.now) m.entries)
      by true same = subst (λ (o : List ℕ). lookup (λ k. bytes_eq o k.0.now) n.entries ≡ w) ((bytes_eq-Decides name.0.now other).0 same) h.1
      by false differ =
          other_entries (λ k. bytes_eq name.0.now k.0.now) m.entries n.entries h.3 (λ k. bytes_eq other k.0.now)
          (λ x y. nat_list_eq_equiv.congr other x.0.now y.0.now) (λ k. apart name.0.now other k differ)
