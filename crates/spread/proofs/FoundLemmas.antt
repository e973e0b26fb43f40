-- What is found in a pack, one body after the other.
use Rattle.std.proofs.Common.{◌≡◌, ◌≢◌, ◌≤◌, ◌+◌, ◌-◌, ◌^◌, min, ℕ, List, [], ◌∷◌, ◌++◌, length, take, drop, Bool, true, false, not, Option, Some, None, MatchOption, refl, sym, ap, ◌∙◌, append_assoc, append-nil, length-append, subst, arith, codes}
use Rattle.std.specs.Int.{w64, to_le_bytes}
use Rattle.std.proofs.Math.Seq.{take-append_seam, drop-append_seam}
use Rattle.packs.specs.declared.fact.Fact.{Fact}
use Rattle.packs.specs.Facts.{IsReadAs}
use Rattle.packs.specs.Packs.{framed, Reads}
use Rattle.packs.proofs.FrameLemmas.{frame-short, length-framed}
use Rattle.packs.proofs.PackLemmas.{LeadsTo, LeadsTo-none, LeadsTo-read, LeadsTo-end}
use Rattle.spread.specs.declared.pack_file.Passage.{Passage}
use Rattle.spread.specs.declared.pack_file.Span.{Span}
use Rattle.spread.specs.declared.found.Entry.{Entry}
use Rattle.spread.specs.declared.found.Found.{Found}
use Rattle.spread.specs.Sums.{sum_of}
use Rattle.spread.specs.PackFiles.{head, IsWholePack}
use Rattle.spread.specs.Passages.{IsBetween, IsWithin, IsMet, IsNext, IsStopped}
use Rattle.spread.specs.Found.{is_model, AreAt, nothing, behind, HasFound}

-- what was put
abbrev pub IsPut : Option Fact → Span → (old new : Found) → Type 0
IsPut fact span old new = MatchOption fact
    ((new.facts.items ≡ old.facts.items) × (new.passed_over ≡ min (old.passed_over + 1) (2 ^ 64 - 1)))
    (λ f. (new.facts.items ≡ old.facts.items ++ record { cube = f.cube; span = span; claims_model = is_model f.claim } ∷ []) × (new.passed_over ≡ old.passed_over))

-- where a body stands
stands-at : (before body rest : List ℕ) → take (length body) (drop (length before + 8) (before ++ (framed body ++ rest))) ≡ body
stands-at before body rest =
    let head = to_le_bytes w64 (length body) in
    let parts : before ++ (framed body ++ rest) ≡ (before ++ head) ++ (body ++ rest)
    = ap (λ (xs : List ℕ). before ++ xs) (append_assoc head body rest) ∙ sym (append_assoc before head (body ++ rest)) in
    let long : length before + 8 ≡ length (before ++ head) = sym (length-append before head) in
    (λ i. take (length body) (drop (long i) (parts i))) ∙ (ap (take (length body)) (drop-append_seam (before ++ head) (body ++ rest)) ∙ take-append_seam body rest)

module _ {R : Type 0} (remaining : R → Option (List ℕ)) (V : ℕ) (before all : List ℕ) where
  -- as far as it was gone through
  pub record IsSoFar (p : Passage R) (found : Found) : Type 0 where
    pub facts : List Fact
    pub read : List ℕ
    pub rest : List ℕ
    pub joined : all ≡ read ++ rest
    pub between : IsBetween remaining p (before ++ read) rest
    pub leads : LeadsTo V all facts found.passed_over rest
    pub entries : AreAt V (before ++ all) found.facts.items facts
    pub few : found.passed_over + length rest ≤ length all

  pub IsSoFar-none : (p : Passage R) (found : Found) → found.facts.items ≡ [] → found.passed_over ≡ 0 → IsBetween remaining p before all → IsSoFar p found
  IsSoFar-none p found none zero between = record {
    facts = [];
    read = [];
    rest = all;
    joined = refl;
    between = subst (λ (xs : List ℕ). IsBetween remaining p xs all) (sym (append-nil before)) between;
    leads = subst (λ n. LeadsTo V all [] n all) (sym zero) (LeadsTo-none V all);
    entries = subst (λ (es : List Entry). AreAt V (before ++ all) es []) (sym none) nothing;
    few = omega (arith, zero);
  }

  -- one body more
  pub IsSoFar-more : (p q : Passage R) (old new : Found) (body : List ℕ) (span : Span) (fact : Option Fact) → MatchOption fact ((f : Fact) → ¬ (IsReadAs V body f)) (λ f. IsReadAs V body f) → IsPut fact span old new
      → ((b r : List ℕ) → IsBetween remaining p b r → IsNext remaining q b r body (Some span)) → IsSoFar p old → IsSoFar q new
  IsSoFar-more p q old new body span fact is put next so_far = go (next (before ++ so_far.read) so_far.rest so_far.between) fact is put
    where
      go : IsNext remaining q (before ++ so_far.read) so_far.rest body (Some span) → (o : Option Fact) → MatchOption o ((f : Fact) → ¬ (IsReadAs V body f)) (λ f. IsReadAs V body f) → IsPut o span old new → IsSoFar q new
      go (rest, e, place, between) None none placed =
          let size = ap length e ∙ length-framed body rest in
          let whole = ap length so_far.joined ∙ length-append so_far.read so_far.rest in
          let front = length-append before so_far.read in
          let few = so_far.few in
          let fits = so_far.between.fits in
          let counted : new.passed_over ≡ old.passed_over + 1 = (let n = placed.1 in omega (arith, n, few, size, whole, front, fits)) in
          record {
            facts = so_far.facts;
            read = so_far.read ++ framed body;
            rest = rest;
            joined = so_far.joined ∙ (ap (λ (xs : List ℕ). so_far.read ++ xs) e ∙ sym (append_assoc so_far.read (framed body) rest));
            between = subst (λ (xs : List ℕ). IsBetween remaining q xs rest) (append_assoc before so_far.read (framed body)) between;
            leads = subst (λ n. LeadsTo V all so_far.facts n rest) (sym counted)
                (LeadsTo-read V all so_far.facts so_far.facts old.passed_over (old.passed_over + 1) so_far.rest body rest None e none (refl, refl) so_far.leads).0;
            entries = subst (λ (es : List Entry). AreAt V (before ++ all) es so_far.facts) (sym placed.0) so_far.entries;
            few = omega (arith, counted, few, size);
          }
      go (rest, e, place, between) (Some f) read placed =
          let size = ap length e ∙ length-framed body rest in
          let few = so_far.few in
          let joined : before ++ all ≡ (before ++ so_far.read) ++ (framed body ++ rest)
          = ap (λ (xs : List ℕ). before ++ xs) (so_far.joined ∙ ap (λ (xs : List ℕ). so_far.read ++ xs) e) ∙ sym (append_assoc before so_far.read (framed body ++ rest)) in
          let there : take span.length (drop span.start (before ++ all)) ≡ body
          = (λ i. take (place i).length (drop (place i).start (joined i))) ∙ stands-at (before ++ so_far.read) body rest in
          record {
            facts = so_far.facts ++ f ∷ [];
            read = so_far.read ++ framed body;
            rest = rest;
            joined = so_far.joined ∙ (ap (λ (xs : List ℕ). so_far.read ++ xs) e ∙ sym (append_assoc so_far.read (framed body) rest));
            between = subst (λ (xs : List ℕ). IsBetween remaining q xs rest) (append_assoc before so_far.read (framed body)) between;
            leads = subst (λ n. LeadsTo V all (so_far.facts ++ f ∷ []) n rest) (sym placed.1)
                (LeadsTo-read V all so_far.facts (so_far.facts ++ f ∷ []) old.passed_over old.passed_over so_far.rest body rest (Some f) e read (refl, refl) so_far.leads).0;
            entries = subst (λ (es : List Entry). AreAt V (before ++ all) es (so_far.facts ++ f ∷ [])) (sym placed.0)
                (behind so_far.entries (record { cube = refl; model = refl; body = subst (λ (xs : List ℕ). IsReadAs V xs f) (sym there) read }));
            few = (let n = placed.1 in omega (arith, n, few, size));
          }

  -- behind the last body
  pub IsSoFar-end : (p q : Passage R) (found : Found) (body : List ℕ) → ((b r : List ℕ) → IsBetween remaining p b r → IsNext remaining q b r body None) → IsSoFar p found
      → IsWithin remaining q (before ++ all) × HasFound V (before ++ all) all (record found { is_broken_off = q.is_broken_off })
  IsSoFar-end p q found body next so_far = (
    subst (IsWithin remaining q) (append_assoc before so_far.read so_far.rest ∙ ap (λ (xs : List ℕ). before ++ xs) (sym so_far.joined)) ends.0,
    record { facts = so_far.facts; reads = go q.is_broken_off ends.1; entries = so_far.entries },
  )
    where
      ends : IsNext remaining q (before ++ so_far.read) so_far.rest body None
      ends = next (before ++ so_far.read) so_far.rest so_far.between

      go : (b : Bool) → IsStopped b so_far.rest → Reads V all so_far.facts found.passed_over (not b)
      go true (some, none) = LeadsTo-end V all so_far.facts found.passed_over so_far.rest false none (λ h. absurd (cc)) (λ h. absurd (some h)) so_far.leads
      go false e = LeadsTo-end V all so_far.facts found.passed_over so_far.rest true (λ b r h. frame-short [] b r (omega arith) (sym e ∙ h)) (λ h. e) (λ h. refl) so_far.leads

-- a pack that begins with the run's line, whose name is made of its bytes
pub IsTaken-whole : {R : Type 0} (remaining : R → Option (List ℕ)) (V : ℕ) (p q : Passage R) (sum name bytes front text : List ℕ) (found : Found) → IsMet remaining p [] bytes front true → front ≡ head sum
    → ((b r : List ℕ) → IsBetween remaining p b r → IsWithin remaining q (b ++ r) × HasFound V (b ++ r) r found) → ((all : List ℕ) → IsWithin remaining q all → text ≡ sum_of all) → name ≡ text ++ codes ".pack"
    → (body : List ℕ) × IsWholePack sum name bytes body × HasFound V bytes body found
IsTaken-whole remaining V p q sum name bytes front text found (rest, e, between) line has summed named =
    let both = has front rest between in
    let of_all : text ≡ sum_of bytes = summed (front ++ rest) both.0 ∙ ap sum_of (sym e) in (
      rest,
      record {
        named = named ∙ ap (λ (xs : List ℕ). xs ++ codes ".pack") of_all;
        joined = e ∙ ap (λ (xs : List ℕ). xs ++ rest) line;
      },
      subst (λ (xs : List ℕ). HasFound V xs rest found) (sym e) both.1,
    )

-- a pack that begins with another line
pub IsTaken-front : {R : Type 0} (remaining : R → Option (List ℕ)) (p : Passage R) (sum name bytes front : List ℕ) → IsMet remaining p [] bytes front false → front ≡ head sum → (body : List ℕ) → ¬ (IsWholePack sum name bytes body)
IsTaken-front remaining p sum name bytes front other line body whole = other body (whole.joined ∙ ap (λ (xs : List ℕ). xs ++ body) (sym line))

-- one of another name
pub IsTaken-name : {R : Type 0} (remaining : R → Option (List ℕ)) (V : ℕ) (p q : Passage R) (sum name bytes front text : List ℕ) (found : Found) → IsMet remaining p [] bytes front true
    → ((b r : List ℕ) → IsBetween remaining p b r → IsWithin remaining q (b ++ r) × HasFound V (b ++ r) r found) → ((all : List ℕ) → IsWithin remaining q all → text ≡ sum_of all) → name ≢ text ++ codes ".pack"
    → (body : List ℕ) → ¬ (IsWholePack sum name bytes body)
IsTaken-name remaining V p q sum name bytes front text found (rest, e, between) has summed other body whole =
    let both = has front rest between in
    let of_all : text ≡ sum_of bytes = summed (front ++ rest) both.0 ∙ ap sum_of (sym e) in
    other (whole.named ∙ ap (λ (xs : List ℕ). xs ++ codes ".pack") (sym of_all))
