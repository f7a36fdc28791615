-- What names mean by the definitions that were taken in, one after the other.
use Rattle.std.specs.Prelude.{ℕ, cond, List, [], ◌∷◌, Option, None, Some, length, option_map, replicate, set, slice_index_or}
use Rattle.std.specs.Option.{option_map_or, option_or}
use Rattle.elf_model.specs.Link.Resolution.{SymbolOf}
use Rattle.search.specs.Loads.{LoadedPlan}
use Rattle.search.specs.Numbers.{name_number}
use Rattle.resolve.specs.Offered.{candidate_of}
use Rattle.symbols.specs.Owners.{is_second, owner_after}
use Rattle.symbols.specs.declared.owner.Owner.{Owner}
use Rattle.symbols.specs.declared.owner.Owner.TheVariants as owner
use Rattle.resolve.specs.declared.taken.Taken as code

-- the owner of each name, by the name's number, and a name that has two strong definitions
pub record TakenIn : Type 0 where
  pub owners : List Owner
  pub twin : Option (List ℕ)

abbrev pub taken_view : code.Taken → TakenIn
taken_view t = record { owners = t.owners.items; twin = option_map (λ n. n.now) t.twin }

-- before any definition
abbrev pub nothing_taken : LoadedPlan → TakenIn
nothing_taken l = record { owners = replicate (length l.names) owner.Nobody; twin = None }

-- after one more, whose name has a number
abbrev pub taken_at : TakenIn → ℕ → SymbolOf → TakenIn
taken_at t n s = record {
  owners = set t.owners n (owner_after (slice_index_or t.owners n owner.Nobody) (candidate_of s));
  twin = option_or t.twin (cond (is_second (slice_index_or t.owners n owner.Nobody) (candidate_of s)) (Some s.name) None);
}

abbrev pub taken_with : LoadedPlan → TakenIn → SymbolOf → TakenIn
taken_with l t s = option_map_or (λ n. taken_at t n s) (name_number l s.object s.number) t

-- after all of a list
abbrev pub taken_after : LoadedPlan → TakenIn → List SymbolOf → TakenIn
taken_after l t [] = t
taken_after l t (s ∷ ss) = taken_after l (taken_with l t s) ss
