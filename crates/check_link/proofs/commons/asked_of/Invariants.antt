use Rattle.std.proofs.Common.{◌≡◌, ℕ, List, drop, max}
use Rattle.check_link.specs.Commons.{asked_in, given_align, given_size, greatest_given}
use Rattle.check_link.specs.Views.{symbol_views}
use Rattle.check_link.proofs.commons.asked_of.Given as goal

abbrev pub invariant-loop-symbol : goal.invariant-loop-symbol
invariant-loop-symbol l = record {
  sizes :
      (name : List ℕ) → max (asked_in (λ a. a.size) l.asked name) (greatest_given given_size name (symbol_views (drop l.symbol-index l.commons)))
      ≡ greatest_given given_size name (symbol_views l.commons);
  aligns :
      (name : List ℕ) → max (asked_in (λ a. a.align) l.asked name) (greatest_given given_align name (symbol_views (drop l.symbol-index l.commons)))
      ≡ greatest_given given_align name (symbol_views l.commons);
}
