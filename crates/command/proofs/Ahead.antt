-- Reading a phrase at a time reads the whole command.
use Rattle.std.proofs.Common.{◌≡◌, ℕ, ◌+◌, ◌-◌, List, [], ◌∷◌, ◌++◌, Result, Ok, Err, String, map, length, Global, string_bytes, append_assoc, arith, refl, ap, ◌∙◌, sym}
use Rattle.std.proofs.lemmas.List.{length-map}
use Rattle.elf_model.specs.declared.faults.CmdFault.{CmdFault}
use Rattle.elf_model.specs.Inputs.Files.{words_of}
use Rattle.elf_model.specs.Inputs.Command.{Phrase, Said, and_then, phrase_of, split, placed, read_behind, whole_line, command_of}
use Rattle.command.specs.RefusedWords.{IsRefusedAt, words_in}
use Rattle.command.specs.Steps.{State, phrase_at, accept, finish}
use Rattle.command.proofs.Growth.{state_from, accept_is, finish_is}
use Rattle.command.proofs.RefusedPhrases.{first_is, read_append, said_err, said_ok, words_append}

-- s is the state behind some phrases, and the words are these phrases and the rest
pub record IsAhead (words : List (List ℕ)) (s : State) (rest : List (List ℕ)) : Type 0 where
  pub front : List Phrase
  pub state : s ≡ state_from front
  pub said : List Said
  pub order : split words ≡ said ++ split rest
  pub read : read_behind [] said ≡ Ok front
  pub count : words_in said + length rest ≡ length words

err_back : (r : Result (List Phrase) CmdFault) (f : CmdFault) → and_then r (λ qs. Ok (state_from qs)) ≡ Err f → r ≡ Err f
err_back (Ok qs) f e = absurd cc
err_back (Err g) f e = let same : g ≡ f = cc in ap Err same

ok_back : (r : Result (List Phrase) CmdFault) (t : State) → and_then r (λ qs. Ok (state_from qs)) ≡ Ok t → (qs : List Phrase) × (r ≡ Ok qs) × (t ≡ state_from qs)
ok_back (Ok qs) t e = let same : state_from qs ≡ t = cc in (qs, refl, sym same)
ok_back (Err g) t e = absurd cc

-- nothing is read yet
pub ahead_start : (words : List (List ℕ)) (s : State) → s ≡ state_from [] → IsAhead words s words
ahead_start words s is = record { front = []; state = is; said = []; order = refl; read = refl; count = omega arith }

module _ (words : List (List ℕ)) (s : State) (rest : List (List ℕ)) (w : List ℕ) (ws : List (List ℕ)) (h : IsAhead words s rest) (begins : rest ≡ w ∷ ws) where
  order : split words ≡ h.said ++ (first_is w ws).0 ∷ split (first_is w ws).1
  order = h.order ∙ ap (λ r. h.said ++ split r) begins ∙ ap (λ ss. h.said ++ ss) (first_is w ws).2.order

  -- the words are refused at the first word of the rest
  refused_here : (n : ℕ) (f : CmdFault) → n ≡ length words - length rest → and_then (phrase_of (first_is w ws).0) (placed h.front) ≡ Err f → IsRefusedAt words n f
  refused_here n f is wrong =
      let count = h.count in
      record {
        front = h.said;
        said = (first_is w ws).0;
        rest = split (first_is w ws).1;
        phrases = h.front;
        order = order;
        number_is = omega (arith, is, count);
        before = h.read;
        refused = wrong;
      }

  -- the first phrase has a fault
  pub phrase_fault : (n : ℕ) (f : CmdFault) → n ≡ length words - length rest → phrase_at w ws ≡ Err f → IsRefusedAt words n f
  phrase_fault n f is x =
      refused_here n f is
      (ap (λ r. and_then r (placed h.front)) (said_err (phrase_of (first_is w ws).0) (first_is w ws).1 f (sym (first_is w ws).2.same ∙ x)))

  module _ (p : Phrase) (more : List (List ℕ)) (x : phrase_at w ws ≡ Ok (p, more)) where
    phrase : (phrase_of (first_is w ws).0 ≡ Ok p) × ((first_is w ws).1 ≡ more)
    phrase = said_ok (phrase_of (first_is w ws).0) (first_is w ws).1 p more (sym (first_is w ws).2.same ∙ x)

    -- the first phrase may not stand there
    pub place_fault : (n : ℕ) (f : CmdFault) → n ≡ length words - length rest → accept s p ≡ Err f → IsRefusedAt words n f
    place_fault n f is y =
        refused_here n f is
        (ap (λ r. and_then r (placed h.front)) phrase.0
        ∙ err_back (placed h.front p) f (sym (accept_is h.front p) ∙ ap (λ t. accept t p) (sym h.state) ∙ y))

    -- the first phrase is taken in
    pub ahead_more : (t : State) → accept s p ≡ Ok t → IsAhead words t more
    ahead_more t y =
        let good = ok_back (placed h.front p) t (sym (accept_is h.front p) ∙ ap (λ u. accept u p) (sym h.state) ∙ y) in
        let first = (first_is w ws).0 in
        let count = h.count in
        let here = (first_is w ws).2.count in
        let one = words_append h.said first in
        let begun : length rest ≡ length (w ∷ ws) = ap length begins in
        let left : length (first_is w ws).1 ≡ length more = ap length phrase.1 in
        record {
          front = good.0;
          state = good.2;
          said = h.said ++ first ∷ [];
          order = order ∙ ap (λ m. h.said ++ first ∷ split m) phrase.1 ∙ sym (append_assoc h.said (first ∷ []) (split more));
          read =
              read_append [] h.said (first ∷ [])
              ∙ ap (λ (r : Result (List Phrase) CmdFault). and_then r (λ ps. read_behind ps (first ∷ []))) h.read
              ∙ ap (λ (r : Result Phrase CmdFault). and_then (and_then r (placed h.front)) (λ ps. Ok ps)) phrase.0
              ∙ ap (λ (r : Result (List Phrase) CmdFault). and_then r (λ ps. Ok ps)) good.1;
          count = omega (arith, count, here, one, begun, left);
        }

-- all phrases are taken in
pub all_read : (words : List (List ℕ)) (s : State) (rest : List (List ℕ)) (h : IsAhead words s rest) → rest ≡ [] → read_behind [] (split words) ≡ Ok h.front
all_read words s rest h e =
    ap (read_behind []) (h.order ∙ ap (λ r. h.said ++ split r) e)
    ∙ read_append [] h.said []
    ∙ ap (λ (r : Result (List Phrase) CmdFault). and_then r (λ ps. Ok ps)) h.read

pub ahead_end : (words : List (List ℕ)) (s : State) (rest : List (List ℕ)) → IsAhead words s rest → rest ≡ [] → command_of words ≡ finish s
unfolding command_of
ahead_end words s rest h e =
    ap (λ r. and_then r whole_line) (all_read words s rest h e)
    ∙ sym (finish_is h.front) ∙ ap finish (sym h.state)

pub none_left : {X Y : Type 0} (f : X → Y) (xs : List X) → length xs ≡ 0 → map f xs ≡ []
none_left f [] e = refl
none_left f (x ∷ xs) e = absurd (omega arith)

-- the number of a word that is come to
pub here : (words rest : List (String Global)) (n : ℕ) → n ≡ length words - length rest → n ≡ length (words_of words) - length (words_of rest)
here words rest n e = rw (length-map words string_bytes, length-map rest string_bytes) e
