-- The next entry that is served.
use Rattle.std.proofs.Common.{◌≡◌, ℕ, ◌+◌, ◌<◌, true, List, [], ◌∷◌, ◌++◌, length, get_or, take, ap, sym, subst, ◌∙◌}
use Rattle.std.proofs.lemmas.List.{take_more}
use Rattle.theory.specs.Literals.{Literal, Clause, has, negated}
use Rattle.theory.specs.Trails.{Entry, Trail, literals}
use Rattle.kernel.specs.Watching.{IsServed, IsNext, Tending, Tends, AllGood}
use Rattle.kernel.proofs.LiteralFacts.{negated-negated}
use Rattle.kernel.proofs.TrailFacts.{literals-push, Includes-take}

-- the entry at a place is the next to be served
pub take-next : (T : Trail) (n : ℕ) (e : Entry) → n < length T → e ≡ get_or T n e → literals (take (n + 1) T) ≡ literals (take n T) ++ e.lit ∷ []
take-next T n e h read = ap literals (take_more T n e h ∙ ap (λ x. take n T ++ x ∷ []) (sym read)) ∙ literals-push (take n T) e

pub is-next : (T : Trail) (n : ℕ) (e : Entry) → n < length T → e ≡ get_or T n e → IsNext T n (negated e.lit)
is-next T n e h read l m =
    Includes-take T (n + 1) l (subst (λ (P : List Literal). has P l ≡ true) (sym (take-next T n e h read ∙ ap (λ x. literals (take n T) ++ x ∷ []) (sym (negated-negated e.lit)))) m)

pub served-next : (floor : ℕ) (K : List Clause) (T : Trail) (n : ℕ) (e : Entry) (t : Tending) → n < length T → e ≡ get_or T n e → Tends floor K T t → AllGood K (literals (take n T) ++ negated (negated e.lit) ∷ []) (literals T) t → IsServed floor K T (n + 1) t
served-next floor K T n e t h read tends good = record {
  tends = tends;
  good = subst (λ (S : List Literal). AllGood K S (literals T) t) (sym (take-next T n e h read ∙ ap (λ x. literals (take n T) ++ x ∷ []) (sym (negated-negated e.lit)))) good;
}

-- what is known of the negation of the literal of the entry at a place
pub record Serves (T : Trail) (n : ℕ) (g : Literal) : Type 0 where
  pub next : IsNext T n g
  pub on : (floor : ℕ) (K : List Clause) (t : Tending) → Tends floor K T t → AllGood K (literals (take n T) ++ negated g ∷ []) (literals T) t → IsServed floor K T (n + 1) t

pub serves : (T U : Trail) (n : ℕ) (e : Entry) (l g : Literal) → U ≡ T → e ≡ get_or U n e → l ≡ e.lit → g ≡ negated l → n < length T → Serves T n g
serves T U n e l g is read lit gone inside = record {
  next = subst (λ (x : Literal). IsNext T n x) (sym one) (is-next T n e inside at);
  on = λ floor K t tends good. served-next floor K T n e t inside at tends (subst (λ (x : Literal). AllGood K (literals (take n T) ++ negated x ∷ []) (literals T) t) one good);
}
  where
    at : e ≡ get_or T n e
    at = read ∙ ap (λ (V : Trail). get_or V n e) is

    one : g ≡ negated e.lit
    one = gone ∙ ap negated lit
