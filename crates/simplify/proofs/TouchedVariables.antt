-- The variables of clauses.
use Rattle.std.proofs.Common.{◌≡◌, ℕ, ◌+◌, ◌<◌, ◌||◌, nat_eq, List, [], ◌∷◌, ◌++◌, map, length, take, slice_index, refl, ap, ap₂, sym, ◌∙◌, Some}
use Rattle.std.specs.List.{list_any}
use Rattle.std.specs.Option.{unwrap_or}
use Rattle.std.proofs.lemmas.List.{take_more, append-nil}
use Rattle.std.proofs.lemmas.List.Folds.{list_any-append}
use Rattle.std.proofs.lemmas.Grind.{flat_map-append}
use Rattle.theory.specs.Literals.{Literal, Clause, has_var}
use Rattle.simplify.specs.Entries.{Entries, entry_at, there}
use Rattle.simplify.specs.Tried.{vars_of}

abbrev vars_in : Clause → List ℕ
vars_in c = map (λ (l : Literal). l.var) c

pub vars-next : (K : Entries) (ns : List ℕ) (i : ℕ) (c : Clause) → i < length ns → entry_at K (slice_index ns i) ≡ Some c → vars_of K (take i ns) ++ map (λ (l : Literal). l.var) c ≡ vars_of K (take (i + 1) ns)
vars-next K ns i c below e =
    ap (λ d. vars_of K (take i ns) ++ vars_in d) (sym (ap (λ o. unwrap_or o []) e))
    ∙ (ap (λ vs. vars_of K (take i ns) ++ vs) (sym (append-nil (vars_in (there K (slice_index ns i)))))
    ∙ (sym (flat_map-append (λ n. vars_in (there K n)) (take i ns) (slice_index ns i ∷ []))
    ∙ ap (vars_of K) (sym (take_more ns i 0 below))))

-- a variable is among them where one of the clauses has it
any-vars : (c : Clause) (y : ℕ) → list_any (nat_eq y) (vars_in c) ≡ has_var c y
any-vars [] y = refl
any-vars (l ∷ c) y = ap (λ b. nat_eq y l.var || b) (any-vars c y)

pub any-touched : (K : Entries) (ns : List ℕ) (y : ℕ) → list_any (nat_eq y) (vars_of K ns) ≡ list_any (λ n. has_var (there K n) y) ns
any-touched K [] y = refl
any-touched K (n ∷ ns) y =
    list_any-append (nat_eq y) (vars_in (there K n)) (vars_of K ns)
    ∙ ap₂ (λ a b. a || b) (any-vars (there K n) y) (any-touched K ns y)
