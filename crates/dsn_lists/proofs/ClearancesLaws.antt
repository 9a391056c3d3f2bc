-- The clearances of a rule of which they alone are read are those that are stated, and their first fault is the one that is told.
use Rattle.std.proofs.Common.{◌≡◌, Bool, true, false, cond, List, [], ◌++◌, map, codes, Ok, Err, refl, sym, ap, subst, ◌∙◌}
use Rattle.std.proofs.lemmas.List.{map-append}
use Rattle.sexp_text.specs.Forest.{Forest, End, Word, Branch}
use Rattle.sexp_text.specs.declared.units.Unit.{Unit as LengthUnit}
use Rattle.board_rules.specs.declared.design.Stated.{Stated}
use Rattle.dsn_lists.specs.declared.faults.DesignFault.{DesignFault}
use Rattle.dsn_lists.specs.Words.{same, head_of}
use Rattle.dsn_lists.specs.Rules.{clearance_list, clearances_item, clearances_of}
use Rattle.dsn_lists.specs.Lists.{collect, Every, When}
use Rattle.dsn_lists.specs.Keyed.{given_with}
use Rattle.dsn_lists.specs.Limits.{AreFitStated}
use Rattle.dsn_lists.specs.Statements.{IsClearance, ClearanceFault, clearance_claims, IsClearanceList, ClearancesFault, clearances_in}
use Rattle.dsn_lists.proofs.Firsts.{made}
use Rattle.dsn_lists.proofs.KeyedLaws.{keyed_found, keyed_again, keyed_fault, keyed_fault_again}
use Rattle.dsn_lists.proofs.StatementLaws.{claimed, clearance_found, clearance_again, clearance_fault, clearance_fault_again}
use Rattle.dsn_lists.proofs.RuleLaws.{AllClaims, claims_join, clearance_all}
use Rattle.dsn_lists.proofs.Bounds.{ok_is, each_keeps, if_ok, clearance_list_bound}

-- the clearances that are read of one list
abbrev read_of : LengthUnit → Forest → List Stated
read_of u f = map (claimed u) (clearance_claims f)

one_each : (u : LengthUnit) (b : Bool) (f : Forest) → cond b (read_of u f) [] ≡ map (claimed u) (cond b (clearance_claims f) [])
one_each u true f = refl
one_each u false f = refl

-- what is read of each list is what is read of all statements
all_each : (u : LengthUnit) (f : Forest) → collect (given_with (codes "clearance") (read_of u)) f ≡ map (claimed u) (collect clearances_in f)
all_each u End = refl
all_each u (Word at text rest) = all_each u rest
all_each u (Branch at inside rest) =
    ap (λ (xs : List Stated). xs ++ collect (given_with (codes "clearance") (read_of u)) rest) (one_each u (same (head_of inside).text (codes "clearance")) (head_of inside).args)
    ∙ ap (λ (xs : List Stated). map (claimed u) (clearances_in at inside) ++ xs) (all_each u rest)
    ∙ sym (map-append (claimed u) (clearances_in at inside) (collect clearances_in rest))

pub clearances_found : (u : LengthUnit) (f : Forest) (ss xs : List Stated) → clearances_of u ss f ≡ Ok xs → Every (IsClearanceList u) f × (xs ≡ ss ++ map (claimed u) (collect clearances_in f))
unfolding clearances_item
clearances_found u f ss xs e =
    let h = keyed_found (codes "clearance") (clearance_list u) (IsClearance u) (read_of u) (λ ss at f xs k. clearance_found u ss at f xs k) f ss xs e in
    (h.0, h.1 ∙ ap (λ (ys : List Stated). ss ++ ys) (all_each u f))

pub clearances_again : (u : LengthUnit) (f : Forest) (ss : List Stated) → Every (IsClearanceList u) f → clearances_of u ss f ≡ Ok (ss ++ map (claimed u) (collect clearances_in f))
unfolding clearances_item
clearances_again u f ss h =
    keyed_again (codes "clearance") (clearance_list u) (IsClearance u) (read_of u) (λ ss at f k. clearance_again u ss at f k) f ss h ∙ ap (λ (ys : List Stated). made (ss ++ ys)) (all_each u f)

pub clearances_fault : (u : LengthUnit) (ss : List Stated) (f : Forest) (e : DesignFault) → clearances_of u ss f ≡ Err e → ClearancesFault u f e
unfolding clearances_item
clearances_fault u ss f e h =
    keyed_fault (codes "clearance") (clearance_list u) (IsClearance u) (read_of u) (ClearanceFault u) (λ ss at f xs k. clearance_found u ss at f xs k) (λ ss at f e k. clearance_fault u ss at f e k) ss f e h

pub clearances_fault_again : (u : LengthUnit) (ss : List Stated) (f : Forest) (e : DesignFault) → ClearancesFault u f e → clearances_of u ss f ≡ Err e
unfolding clearances_item
clearances_fault_again u ss f e h =
    keyed_fault_again (codes "clearance") (clearance_list u) (IsClearance u) (read_of u) (ClearanceFault u) (λ ss at f k. clearance_again u ss at f k) (λ ss at f e k. clearance_fault_again u ss at f e k) ss f e h

-- ---- what is stated

one_states : (u : LengthUnit) (b : Bool) (f : Forest) → When b (IsClearance u f) → AllClaims u (cond b (clearance_claims f) [])
one_states u true f h = clearance_all u f h
one_states u false f h = tt

pub clearances_state : (u : LengthUnit) (f : Forest) → Every (IsClearanceList u) f → AllClaims u (collect clearances_in f)
clearances_state u End h = tt
clearances_state u (Word at text rest) h = absurd h
clearances_state u (Branch at inside rest) h =
    claims_join u (clearances_in at inside) (collect clearances_in rest) (one_states u (same (head_of inside).text (codes "clearance")) (head_of inside).args h.0) (clearances_state u rest h.1)

-- ---- within the limits

pub clearances_bound : (u : LengthUnit) (ss : List Stated) (f : Forest) (xs : List Stated) → AreFitStated ss → clearances_of u ss f ≡ Ok xs → AreFitStated xs
unfolding clearances_item
clearances_bound u ss f xs p e =
    each_keeps AreFitStated (clearances_item u)
    (λ ss at inside xs q k. if_ok AreFitStated (same (head_of inside).text (codes "clearance")) _ _ xs (λ s. clearance_list_bound u ss at (head_of inside).args xs q s) (λ s. subst AreFitStated (ok_is s) q) k)
    ss f xs p e
