-- No limits are above the large ones.
use Rattle.std.proofs.Common.{◌≤◌, arith}
use Rattle.theory.specs.Truth.{Formula}
use Rattle.theory.specs.ProofReading.{max_proof_bytes}
use Rattle.theory.specs.Reading.{Limits, standard, large, max_vars, max_clauses, max_literals, IsWithinLimits}

pub few-vars : (L : Limits) → max_vars L ≤ max_vars large
few-vars standard = omega arith
few-vars large = omega arith

pub few-clauses : (L : Limits) → max_clauses L ≤ max_clauses large
few-clauses standard = omega arith
few-clauses large = omega arith

pub few-literals : (L : Limits) → max_literals L ≤ max_literals large
few-literals standard = omega arith
few-literals large = omega arith

pub few-proof_bytes : (L : Limits) → max_proof_bytes L ≤ max_proof_bytes large
few-proof_bytes standard = omega arith
few-proof_bytes large = omega arith

pub within-large : (L : Limits) (F : Formula) → IsWithinLimits L F → IsWithinLimits large F
within-large L F w =
    let vars = few-vars L in
    let clauses = few-clauses L in
    let literals = few-literals L in
    record {
      vars = (let v = w.vars in omega arith);
      clauses = (let c = w.clauses in omega arith);
      literals = (let l = w.literals in omega arith);
      formula = w.formula;
    }
