use Rattle.std.proofs.Common.{◌≡◌, ◌||◌, ℕ, List, drop}
use Rattle.elf_model.specs.Inputs.ObjectFile.{symbols}
use Rattle.search.specs.Loaders.{asked_from, asked_in, defined_from, defined_in}
use Rattle.search.specs.Mentions.{AreNoted, has_definition}
use Rattle.search.specs.Names.{Begins, is_among}
use Rattle.search.specs.Numbers.{AreFirstNumbers}
use Rattle.search.proofs.loader.Names.note_all.Given as goal

abbrev pub invariant-loop-j : goal.invariant-loop-j
invariant-loop-j g l = record {
  noted : AreNoted g.N.NameNumbers.names l.self;
  requested : (n : List ℕ) → (asked_from l.object l.dropped (drop l.j (symbols l.object)) n || is_among l.self.requested n)
      ≡ (asked_in l.object l.dropped n || is_among l.fn.self.requested n);
  grows : Begins l.fn.self.requested l.self.requested;
  defined : (n : List ℕ) → (defined_from l.object l.dropped (drop l.j (symbols l.object)) n || has_definition g.N.NameNumbers.names l.self n)
      ≡ (defined_in l.object l.dropped n || has_definition g.N.NameNumbers.names l.fn.self n);
  added : Begins (g.N.NameNumbers.names l.fn.self.numbers) (g.N.NameNumbers.names l.self.numbers);
  numbered : AreFirstNumbers l.j (g.N.NameNumbers.names l.self.numbers) l.object l.numbers.items;
}
