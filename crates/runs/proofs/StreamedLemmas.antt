-- A proof that is checked as a reader gives it.
use Rattle.std.proofs.Common.{◌≡◌, ℕ, ◌+◌, ◌≤◌, List, ◌++◌, length, take, Option, Some, None, IfSome, Result, MatchResult, sym, ap, subst, ◌∙◌, arith, inl, inr, append-nil, length-append, append_assoc}
use Rattle.std.proofs.lemmas.List.{take_at, take_all}
use Rattle.std.proofs.lemmas.Bool.{cases_lt}
use Rattle.std.specs.Io.KnownBytes.{Consumes, IsAtEnd}
use Rattle.theory.specs.Reading.{Limits}
use Rattle.theory.specs.Truth as truth
use Rattle.theory.specs.ProofReading.{ProofReading, ProofReadsWithin, max_proof_bytes, too_long}
use Rattle.theory.specs.Checking.{accepted}
use Rattle.lrat.specs.Running.{IsSaid}
use Rattle.lrat.specs.declared.refusal.Refusal.{Refusal}
use Rattle.lrat_text.specs.Streams.{Stream, begin, feed, finish, checked, answer_to}
use Rattle.lrat.proofs.StreamLemmas.{feed-append, feed-seen, finish-feed}
use Rattle.lrat_text.proofs.ProofTexts.{reading_of_text, reading-ProofReads}
use Rattle.runs.specs.Streamed.{FeedsOn, FeedsChunk, FeedsAll}

-- one piece behind another
Consumes-both : (a b d : Option (List ℕ)) (xs ys : List ℕ) → Consumes a b xs → Consumes b d ys → Consumes a d (xs ++ ys)
Consumes-both None b d xs ys h g = tt
Consumes-both (Some us) None d xs ys h g = absurd h
Consumes-both (Some us) (Some vs) None xs ys h g = absurd g
Consumes-both (Some us) (Some vs) (Some ws) xs ys h g = h ∙ ap (λ (r : List ℕ). xs ++ r) g ∙ sym (append_assoc xs ys ws)

pub FeedsOn-more : (a b d : Option (List ℕ)) (V W : ℕ) (l m r : Stream) (n k room : ℕ) → FeedsOn a b V l m n → W ≡ V → FeedsChunk b d W m r room k → FeedsOn a d V l r (n + k)
FeedsOn-more a b d V W l m r n k room h same g = record {
  bytes = h.bytes ++ g.feeds.bytes;
  taken = Consumes-both a b d h.bytes g.feeds.bytes h.taken g.feeds.taken;
  fed = g.feeds.fed ∙ ap (λ v. feed v m g.feeds.bytes) same ∙ ap (λ x. feed V x g.feeds.bytes) h.fed ∙ sym (feed-append V l h.bytes g.feeds.bytes);
  many = rw length-append (let x = h.many in let y = g.feeds.many in omega arith);
}

pub FeedsOn-seen : (a b : Option (List ℕ)) (V : ℕ) (l m : Stream) (n : ℕ) → FeedsOn a b V l m n → l.seen ≡ 0 → m.seen ≡ n
FeedsOn-seen a b V l m n h first = ap (λ (x : Stream). x.seen) h.fed ∙ feed-seen V h.bytes l ∙ (let x = h.many in omega arith)

-- as many bytes as are wanted
pub FeedsAll-full : (L : Limits) (a b : Option (List ℕ)) (V : ℕ) (l m : Stream) (n : ℕ) → FeedsOn a b V l m n → n ≡ max_proof_bytes L + 1 → FeedsAll L a V l m
FeedsAll-full L a b V l m n h full = record { bytes = h.bytes; are = front a b h.taken; fed = h.fed }
  where
    front : (a b : Option (List ℕ)) → Consumes a b h.bytes → IfSome a (λ xs. h.bytes ≡ take (max_proof_bytes L + 1) xs)
    front None b t = tt
    front (Some xs) None t = absurd t
    front (Some xs) (Some ys) t = sym (ap (take (max_proof_bytes L + 1)) t ∙ take_at h.bytes ys (max_proof_bytes L + 1) (let x = h.many in omega arith))

-- all bytes, where a read gives no more
pub FeedsAll-ended : (L : Limits) (a b d : Option (List ℕ)) (V W : ℕ) (l m r : Stream) (n k room : ℕ) → FeedsOn a b V l m n → W ≡ V → n ≤ max_proof_bytes L + 1 → FeedsChunk b d W m r room k → k ≡ 0 → FeedsAll L a V l r
FeedsAll-ended L a b d V W l m r n k room h same within g none =
    let whole = FeedsOn-more a b d V W l m r n k room h same g in
    record { bytes = whole.bytes; are = front whole.bytes a d whole.taken (g.at_end none) (let x = whole.many in omega arith); fed = whole.fed }
  where
    front : (bytes : List ℕ) (a d : Option (List ℕ)) → Consumes a d bytes → IsAtEnd d → length bytes ≤ max_proof_bytes L + 1 → IfSome a (λ xs. bytes ≡ take (max_proof_bytes L + 1) xs)
    front bytes None d t e short = tt
    front bytes (Some xs) None t e short = absurd t
    front bytes (Some xs) (Some ys) t e short =
        let all : xs ≡ bytes = t ∙ ap (λ (r : List ℕ). bytes ++ r) e ∙ append-nil bytes in
        sym (ap (take (max_proof_bytes L + 1)) all ∙ take_all (max_proof_bytes L + 1) bytes short)

-- each text is read in some way
pub some_reading : (L : Limits) (bytes : List ℕ) → (r : ProofReading) × ProofReadsWithin L bytes r
some_reading L bytes = elim (cases_lt (max_proof_bytes L) (length bytes)) [
  | inl long ↦ (too_long, long)
  | inr short ↦ (reading_of_text bytes, reading-ProofReads L bytes short)
]

-- a check that was fed with a whole text
pub said-of_text : (L : Limits) {X : Type 0} (F : truth.Formula) (V : ℕ) (first m : Stream) (bytes : List ℕ) (r : ProofReading) (v : Result X Refusal) → ProofReadsWithin L bytes r → V ≡ F.vars → first ≡ begin F → m ≡ feed V first bytes
    → MatchResult v (λ _. finish L m ≡ checked accepted) (IsSaid (finish L m)) → MatchResult v (λ _. answer_to F r ≡ checked accepted) (IsSaid (answer_to F r))
said-of_text L F V first m bytes r v reads vars begins fed =
    let e : finish L m ≡ answer_to F r = ap (finish L) fed ∙ ap (λ n. finish L (feed n first bytes)) vars ∙ ap (λ x. finish L (feed F.vars x bytes)) begins ∙ finish-feed L F bytes r reads in
    subst (λ a. MatchResult v (λ _. a ≡ checked accepted) (IsSaid a)) e
