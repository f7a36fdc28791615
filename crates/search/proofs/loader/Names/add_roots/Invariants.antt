use Rattle.std.proofs.Common.{◌≡◌, ◌||◌, ℕ, List, ◌∷◌, drop}
use Rattle.std.specs.List.{list_any}
use Rattle.std.specs.Str.{bytes_eq}
use Rattle.command.specs.Views.{texts_of}
use Rattle.search.specs.Mentions.{AreNoted, has_definition}
use Rattle.search.specs.Names.{is_among}
use Rattle.search.proofs.loader.Names.add_roots.Given as goal

abbrev pub invariant-loop-root : goal.invariant-loop-root
invariant-loop-root g l = record {
  noted : AreNoted g.N.NameNumbers.names l.self;
  requested : (n : List ℕ) → (list_any (λ root. bytes_eq root n) (texts_of (drop l.root-index l.undefined)) || is_among l.self.requested n)
      ≡ list_any (λ root. bytes_eq root n) (l.entry ∷ texts_of l.undefined);
  defined : (n : List ℕ) → has_definition g.N.NameNumbers.names l.self n ≡ has_definition g.N.NameNumbers.names l.fn.self n;
}
