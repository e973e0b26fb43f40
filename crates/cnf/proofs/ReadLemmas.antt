-- What the machine says at the end is what the text is read as.
use Rattle.std.proofs.Common.{◌≡◌, ℕ, ◌<◌, ◌≤◌, true, false, List, [], ◌∷◌, length, get_or, nat_eq, eq-eqb, refl, sym, ap, subst, ◌∙◌, arith, ne_eqb}
use Rattle.theory.specs.Literals.{Clause}
use Rattle.theory.specs.Tokens.{Place}
use Rattle.theory.specs.Reading.{Limits, max_bytes, end_of, clause_not_ended, too_few_clauses, Placed, Reading, formula, refusal, ReadsWithin}
use Rattle.theory.proofs.reading.ReadingLemmas.{read-Reads}
use Rattle.theory.proofs.reading.ReadingMachine.{ReaderState, at_body}
use Rattle.cnf.specs.declared.fault.ReadFault.{ReadFault}
use Rattle.cnf.specs.Faults.{IsRefusal}
use Rattle.cnf.specs.Machine.{TakesToken, Refuses, run, ends_in, reads_from, reading_of}
use Rattle.cnf.specs.Tokens.{behind_header, is_word_byte, place_at, tokens_left}
use Rattle.cnf.specs.Words.{IsWordAt, word_at}
use Rattle.cnf.proofs.LeftTokens.{tokens_left-word, tokens_left-end}
use Rattle.cnf.proofs.FaultLemmas.{IsRefusal-weaker}
use Rattle.cnf.proofs.MachineLemmas.{reading_of-read, run-step, run-fault}
use Rattle.cnf.proofs.PlaceLemmas.{end_of-place}

pub reading-Reads : (L : Limits) (bytes : List ℕ) (r : Reading) → length bytes ≤ max_bytes L → reading_of L bytes ≡ r → ReadsWithin L bytes r
reading-Reads L bytes r short e = subst (ReadsWithin L bytes) (reading_of-read L bytes ∙ e) (read-Reads L bytes short)

pub refusal-Reads : (L : Limits) (bytes : List ℕ) (e : ReadFault) → length bytes ≤ max_bytes L → IsRefusal (λ r. reading_of L bytes ≡ r) e → IsRefusal (ReadsWithin L bytes) e
refusal-Reads L bytes e short h = IsRefusal-weaker (λ r. reading_of L bytes ≡ r) (ReadsWithin L bytes) e (λ r f. reading-Reads L bytes r short f) h

-- of limits that are the same
pub refuses-same : (L M : Limits) (s : ReaderState) (t : Placed) (e : ReadFault) → M ≡ L → IsRefusal (Refuses M s t) e → IsRefusal (Refuses L s t) e
refuses-same L M s t e same h = subst (λ (l : Limits). IsRefusal (Refuses l s t) e) same h

-- the ends of texts
inside : (V C : ℕ) (cs : List Clause) (part : Clause) (end : Place) → (length part ≡ 0 → ⊥) → ends_in (at_body V C cs part) end ≡ refusal clause_not_ended end
inside V C cs [] end h = absurd (h refl)
inside V C cs (l ∷ part) end h = refl

few : (V C : ℕ) (cs : List Clause) (part : Clause) (end : Place) → length part ≡ 0 → (length cs ≡ C → ⊥) → ends_in (at_body V C cs part) end ≡ refusal too_few_clauses end
few V C cs [] end h n = let f : nat_eq (length cs) C ≡ false = ne_eqb (length cs) C n in rw f refl
few V C cs (l ∷ part) end h n = absurd (omega arith)

whole : (V C : ℕ) (cs : List Clause) (part : Clause) (end : Place) → length part ≡ 0 → length cs ≡ C → ends_in (at_body V C cs part) end ≡ formula (record { vars = V; clauses = cs })
whole V C cs [] end h n = let f : nat_eq (length cs) C ≡ true = eq-eqb (length cs) C n in rw f refl
whole V C cs (l ∷ part) end h n = absurd (omega arith)

module _ (L : Limits) (V C : ℕ) (cs : List Clause) (part : Clause) (bytes : List ℕ) (short : length bytes ≤ max_bytes L) (all : reading_of L bytes ≡ run L (at_body V C cs part) [] (end_of bytes)) where
  pub Reads-inside : (place : Place) → place ≡ place_at bytes (length bytes) → (length part ≡ 0 → ⊥) → ReadsWithin L bytes (refusal clause_not_ended place)
  Reads-inside place p h = reading-Reads L bytes (refusal clause_not_ended place) short (all ∙ inside V C cs part (end_of bytes) h ∙ ap (refusal clause_not_ended) (end_of-place bytes ∙ sym p))

  pub Reads-few : (place : Place) → place ≡ place_at bytes (length bytes) → length part ≡ 0 → (length cs ≡ C → ⊥) → ReadsWithin L bytes (refusal too_few_clauses place)
  Reads-few place p h n = reading-Reads L bytes (refusal too_few_clauses place) short (all ∙ few V C cs part (end_of bytes) h n ∙ ap (refusal too_few_clauses) (end_of-place bytes ∙ sym p))

  pub Reads-whole : length part ≡ 0 → length cs ≡ C → ReadsWithin L bytes (formula (record { vars = V; clauses = cs }))
  Reads-whole h n = reading-Reads L bytes (formula (record { vars = V; clauses = cs })) short (all ∙ whole V C cs part (end_of bytes) h n)

-- a word behind the header
module _ (L : Limits) (s : ReaderState) (bytes : List ℕ) (i j : ℕ) (so_far : reading_of L bytes ≡ reads_from L s behind_header bytes i) (w : IsWordAt bytes i j) (within : j ≤ length bytes) (end : j < length bytes → is_word_byte (get_or bytes j 0) ≡ false) where
  here : reading_of L bytes ≡ run L s (word_at bytes i j ∷ tokens_left behind_header bytes j) (end_of bytes)
  here = so_far ∙ ap (λ (ts : List Placed). run L s ts (end_of bytes)) (tokens_left-word behind_header bytes i j w within end)

  pub taken : (next : ReaderState) (k : ℕ) → TakesToken L s (word_at bytes i j) next → tokens_left behind_header bytes k ≡ tokens_left behind_header bytes j → reading_of L bytes ≡ reads_from L next behind_header bytes k
  taken next k t e =
      here ∙ run-step L s next (word_at bytes i j) (tokens_left behind_header bytes j) (end_of bytes) t.step_is ∙ ap (λ (ts : List Placed). run L next ts (end_of bytes)) (sym e)

  pub refused : (e : ReadFault) → length bytes ≤ max_bytes L → IsRefusal (Refuses L s (word_at bytes i j)) e → IsRefusal (ReadsWithin L bytes) e
  refused e short h =
      IsRefusal-weaker (Refuses L s (word_at bytes i j)) (ReadsWithin L bytes) e
      (λ r f. reading-Reads L bytes r short (here ∙ run-fault L s (word_at bytes i j) (tokens_left behind_header bytes j) (end_of bytes) f.none ∙ sym f.is)) h

pub at_text_end : (L : Limits) (s : ReaderState) (bytes : List ℕ) (i : ℕ) → length bytes ≤ i → reading_of L bytes ≡ reads_from L s behind_header bytes i → reading_of L bytes ≡ run L s [] (end_of bytes)
at_text_end L s bytes i past e = e ∙ ap (λ (ts : List Placed). run L s ts (end_of bytes)) (tokens_left-end behind_header bytes i past (λ x. cc))
