-- The words' first phrase, and the words behind it.
use Rattle.std.proofs.Common.{◌≡◌, ℕ, Bool, true, false, cond, List, [], ◌∷◌, Option, Some, None, is_some, Result, Ok, Err, refl, ◌∙◌}
use Rattle.std.specs.Option.{option_map_or}
use Rattle.elf_model.specs.declared.faults.CmdFault.{CmdFault}
use Rattle.elf_model.specs.Inputs.Command.{Phrase, Setting, Said, and_then, given, of_next, of_word, setting_of, split, placed, read_behind}
use Rattle.command.specs.Steps.{with_next, phrase_at}

-- what is read from a phrase and the words behind it
abbrev pub read_on : List Phrase → Phrase × List (List ℕ) → Result (List Phrase) CmdFault
read_on front r = and_then (placed front r.0) (λ ps. read_behind ps (split r.1))

then_is : (r : Result Phrase CmdFault) (front : List Phrase) (ws : List (List ℕ)) → and_then (and_then r (placed front)) (λ ps. read_behind ps (split ws)) ≡ and_then (and_then {Y = Phrase × List (List ℕ)} r (λ p. Ok (p, ws))) (read_on front)
then_is (Ok p) front ws = refl
then_is (Err f) front ws = refl

read_as : Option Setting → List Phrase → List ℕ → List (List ℕ) → Result (List Phrase) CmdFault
read_as o front w [] = and_then (and_then (option_map_or (of_next None) o (of_word w)) (placed front)) (λ ps. Ok ps)
read_as o front w (v ∷ ws) = cond (is_some o)
    (and_then (and_then (option_map_or (of_next (Some v)) o (of_word w)) (placed front)) (λ ps. read_behind ps (split ws)))
    (and_then (and_then (option_map_or (of_next None) o (of_word w)) (placed front)) (λ ps. read_behind ps (split (v ∷ ws))))

read_cond : (b : Bool) (front : List Phrase) (s t : Said) (ss ts : List Said) → read_behind front (cond b (s ∷ ss) (t ∷ ts)) ≡ cond b (read_behind front (s ∷ ss)) (read_behind front (t ∷ ts))
read_cond true front s t ss ts = refl
read_cond false front s t ss ts = refl

read_as_is : (o : Option Setting) (front : List Phrase) (w : List ℕ) (ws : List (List ℕ)) → read_as o front w ws ≡ and_then (option_map_or (with_next ws) o (and_then (of_word w) (λ p. Ok (p, ws)))) (read_on front)
unfolding read_as
read_as_is None front w [] = then_is (of_word w) front []
read_as_is None front w (v ∷ ws) = then_is (of_word w) front (v ∷ ws)
read_as_is (Some s) front w [] = refl
read_as_is (Some s) front w (v ∷ ws) = then_is (given s v) front ws

-- reading on is taking the first phrase off, and reading on
pub split_is : (front : List Phrase) (w : List ℕ) (ws : List (List ℕ)) → read_behind front (split (w ∷ ws)) ≡ and_then (phrase_at w ws) (read_on front)
unfolding read_as
split_is front w [] = read_as_is (setting_of w) front w []
split_is front w (v ∷ ws) =
    read_cond (is_some (setting_of w)) front (record { word = w; value = Some v }) (record { word = w; value = None }) (split ws) (split (v ∷ ws))
    ∙ read_as_is (setting_of w) front w (v ∷ ws)
