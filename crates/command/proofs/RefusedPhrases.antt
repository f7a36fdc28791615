-- The first phrase of some words, and the word at which a phrase is refused.
use Rattle.std.proofs.Common.{◌≡◌, ℕ, ◌+◌, cond, List, [], ◌∷◌, ◌++◌, length, Option, Some, None, is_some, Result, Ok, Err, refl, ap, ◌∙◌, sym, subst, arith}
use Rattle.std.specs.Option.{option_map_or}
use Rattle.elf_model.specs.declared.faults.CmdFault.{CmdFault}
use Rattle.elf_model.specs.Inputs.Command.{Phrase, Plan, Setting, Said, and_then, command_of, of_next, of_word, phrase_of, placed, read_behind, setting_of, split, whole_line}
use Rattle.command.specs.RefusedWords.{AreRefused, IsRefusedAt, words_in, words_of_said}
use Rattle.command.specs.Steps.{with_next, phrase_at}

-- the first phrase of words, and the words behind it
pub record IsFirst (w : List ℕ) (ws : List (List ℕ)) (s : Said) (more : List (List ℕ)) : Type 0 where
  pub order : split (w ∷ ws) ≡ s ∷ split more
  pub count : words_of_said s + length more ≡ 1 + length ws
  pub same : phrase_at w ws ≡ and_then {Y = Phrase × List (List ℕ)} (phrase_of s) (λ p. Ok (p, more))

alone : (o : Option Setting) (r : Result Phrase CmdFault) → option_map_or (with_next []) o (and_then {Y = Phrase × List (List ℕ)} r (λ p. Ok (p, []))) ≡ and_then {Y = Phrase × List (List ℕ)} (option_map_or (of_next None) o r) (λ p. Ok (p, []))
alone None r = refl
alone (Some s) r = refl

pub first_is : (w : List ℕ) (ws : List (List ℕ)) → (s : Said) × (more : List (List ℕ)) × IsFirst w ws s more
first_is w [] = (record { word = w; value = None }, [], record { order = refl; count = refl; same = alone (setting_of w) (of_word w) })
first_is w (v ∷ ws) = by (setting_of w) refl
  where
    order : (o : Option Setting) → setting_of w ≡ o → split (w ∷ v ∷ ws) ≡ cond (is_some o) (record { word = w; value = Some v } ∷ split ws) (record { word = w; value = None } ∷ split (v ∷ ws))
    order o e = ap (λ (x : Option Setting). cond (is_some x) (record { word = w; value = Some v } ∷ split ws) (record { word = w; value = None } ∷ split (v ∷ ws))) e

    at : (o : Option Setting) → setting_of w ≡ o → phrase_at w (v ∷ ws) ≡ option_map_or (with_next (v ∷ ws)) o (and_then {Y = Phrase × List (List ℕ)} (of_word w) (λ p. Ok (p, v ∷ ws)))
    at o e = ap (λ (x : Option Setting). option_map_or (with_next (v ∷ ws)) x (and_then {Y = Phrase × List (List ℕ)} (of_word w) (λ p. Ok (p, v ∷ ws)))) e

    of : (o : Option Setting) (u : Option (List ℕ)) (more : List (List ℕ)) → setting_of w ≡ o →
        and_then {Y = Phrase × List (List ℕ)} (option_map_or (of_next u) o (of_word w)) (λ p. Ok (p, more)) ≡ and_then {Y = Phrase × List (List ℕ)} (phrase_of (record { word = w; value = u })) (λ p. Ok (p, more))
    of o u more e = ap (λ (x : Option Setting). and_then {Y = Phrase × List (List ℕ)} (option_map_or (of_next u) x (of_word w)) (λ p. Ok (p, more))) (sym e)

    by : (o : Option Setting) → setting_of w ≡ o → (s : Said) × (more : List (List ℕ)) × IsFirst w (v ∷ ws) s more
    by None e = (record { word = w; value = None }, v ∷ ws, record { order = order None e; count = refl; same = at None e ∙ of None None (v ∷ ws) e })
    by (Some s) e = (record { word = w; value = Some v }, ws, record { order = order (Some s) e; count = omega arith; same = at (Some s) e ∙ of (Some s) (Some v) ws e })

-- what a phrase that is read is, and its fault
pub said_ok : (r : Result Phrase CmdFault) (m : List (List ℕ)) (p : Phrase) (more : List (List ℕ)) → and_then {Y = Phrase × List (List ℕ)} r (λ q. Ok (q, m)) ≡ Ok (p, more) → (r ≡ Ok p) × (m ≡ more)
said_ok (Ok q) m p more e = let both : ◌≡◌ {A = Phrase × List (List ℕ)} (q, m) (p, more) = cc in (ap (λ (x : Phrase × List (List ℕ)). Ok x.0) both, ap (λ (x : Phrase × List (List ℕ)). x.1) both)
said_ok (Err g) m p more e = absurd cc

pub said_err : (r : Result Phrase CmdFault) (m : List (List ℕ)) (f : CmdFault) → and_then {Y = Phrase × List (List ℕ)} r (λ q. Ok (q, m)) ≡ Err f → r ≡ Err f
said_err (Ok q) m f e = absurd cc
said_err (Err g) m f e = let same : g ≡ f = cc in ap Err same

-- reading phrases and more behind them
then_then : {X : Type 0} (r : Result X CmdFault) (f g : X → Result (List Phrase) CmdFault) (h : List Phrase → Result (List Phrase) CmdFault) → ((x : X) → g x ≡ and_then (f x) h) → and_then r g ≡ and_then (and_then r f) h
then_then (Ok x) f g h same = same x
then_then (Err e) f g h same = refl

pub read_append : (front : List Phrase) (xs ys : List Said) → read_behind front (xs ++ ys) ≡ and_then (read_behind front xs) (λ ps. read_behind ps ys)
read_append front [] ys = refl
read_append front (x ∷ xs) ys =
    then_then (and_then (phrase_of x) (placed front)) (λ ps. read_behind ps xs) (λ ps. read_behind ps (xs ++ ys)) (λ ps. read_behind ps ys)
    (λ ps. read_append ps xs ys)

pub words_append : (xs : List Said) (s : Said) → words_in (xs ++ s ∷ []) ≡ words_in xs + words_of_said s
words_append [] s = omega arith
words_append (x ∷ xs) s = let more = words_append xs s in omega (arith, more)

-- words that are refused at one are refused
pub refused_fails : (words : List (List ℕ)) (n : ℕ) (f : CmdFault) → IsRefusedAt words n f → command_of words ≡ Err f
unfolding command_of
refused_fails words n f r =
    ap (λ (x : Result (List Phrase) CmdFault). and_then x whole_line)
    (ap (read_behind []) r.order
    ∙ read_append [] r.front (r.said ∷ r.rest)
    ∙ ap (λ (x : Result (List Phrase) CmdFault). and_then x (λ ps. read_behind ps (r.said ∷ r.rest))) r.before
    ∙ ap (λ (x : Result (List Phrase) CmdFault). and_then x (λ ps. read_behind ps r.rest)) r.refused)

-- what is told of words that are refused
pub refused_at : (words : List (List ℕ)) (n : ℕ) (g f : CmdFault) → IsRefusedAt words n g → command_of words ≡ Err f → IsRefusedAt words n f
refused_at words n g f r is =
    let both : ◌≡◌ {A = Result Plan CmdFault} (Err g) (Err f) = sym (refused_fails words n g r) ∙ is in
    let same : g ≡ f = cc in
    subst (IsRefusedAt words n) same r

pub refused_together : (words : List (List ℕ)) (f : CmdFault) → (ps : List Phrase) × (read_behind [] (split words) ≡ Ok ps) → command_of words ≡ Err f → AreRefused words f None
unfolding command_of
refused_together words f r is = record {
  phrases = r.0;
  read = r.1;
  refused = sym (ap (λ (x : Result (List Phrase) CmdFault). and_then x whole_line) r.1) ∙ is;
}
