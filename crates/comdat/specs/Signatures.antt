-- The set of signatures as clauses see it.
use Rattle.std.specs.Prelude.{ℕ, ◌≡◌, ◌++◌, List, map}
use Rattle.elf_model.specs.declared.name.Name.{Name}

-- the names that keys are
abbrev pub names_of : List Name → List (List ℕ)
names_of keys = map (λ k. k.0.now) keys

-- a list is the beginning of another
abbrev pub Begins : {X : Type 0} → List X → List X → Type 0
Begins {X} xs ys = (more : List X) × (ys ≡ xs ++ more)
