-- What loading knows of names: whether one is asked for, and whether one is defined.
use Rattle.std.specs.Prelude.{◌≡◌, ℕ, Bool, false, List, length, slice_index_or}
use Rattle.search.specs.Names.{is_among, number_of}
use Rattle.search.specs.declared.loader.Mention.{Mention}
use Rattle.search.specs.declared.loader.Names.{Names}

abbrev pub no_mention : Mention
no_mention = record { requested = false; defined = false }

abbrev pub mention_of : List (List ℕ) → List Mention → List ℕ → Mention
mention_of names mentions name = slice_index_or mentions (number_of names name) no_mention

-- there is a mention for each name, and it tells whether the name was asked for
pub record AreNoted {N : Type 0} (names : N → List (List ℕ)) (x : Names N) : Type 0 where
  pub sized : length x.mentions.items ≡ length (names x.numbers)
  pub asked : (n : List ℕ) → (mention_of (names x.numbers) x.mentions.items n).requested ≡ is_among x.requested n

-- whether a name is defined, by its mention
abbrev pub has_definition : {N : Type 0} → (N → List (List ℕ)) → Names N → List ℕ → Bool
has_definition names x name = (mention_of (names x.numbers) x.mentions.items name).defined
