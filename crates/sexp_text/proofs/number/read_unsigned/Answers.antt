use Rattle.std.proofs.Common.{◌++◌, refl}
use Rattle.sexp_text.specs.NumberTexts.{point_bytes}
use Rattle.sexp_text.proofs.DigitLists.{mantissa_free}
use Rattle.sexp_text.proofs.NumberReadings.{no_power, some_power, plain_is, full_is, plain_number, full_number}
use Rattle.sexp_text.proofs.number.read_unsigned.Goals as goal

pub returns-in_err-digits-in-None-clause-all : goal.returns-in_err-digits-in-None-clause-all
returns-in_err-digits-in-None-clause-all c = λ n fine s e.
    let free = mantissa_free n.whole n.fraction fine.mantissa in
    let h = no_power c.args.text.now (n.whole ++ point_bytes n.fraction) n.power free fine.power c.in-None.ensures.found e in
    let m = c.in_err-digits-in-None.ensures.all n.whole n.fraction fine.mantissa h.1 in
    absurd cc

pub returns-in_err-digits-in-Some-clause-all : goal.returns-in_err-digits-in-Some-clause-all
returns-in_err-digits-in-Some-clause-all c = λ n fine s e.
    let free = mantissa_free n.whole n.fraction fine.mantissa in
    let h = some_power c.args.text.now c.in-Some.front.now c.in-Some.power.now (n.whole ++ point_bytes n.fraction) n.power free fine.power c.in-Some.ensures.found c.in-Some.ensures.none e in
    let m = c.in_err-digits-in-Some.ensures.all n.whole n.fraction fine.mantissa h.3 in
    absurd cc

pub returns-in_err-right-in-Some-clause-all : goal.returns-in_err-right-in-Some-clause-all
returns-in_err-right-in-Some-clause-all c = λ n fine s e.
    let free = mantissa_free n.whole n.fraction fine.mantissa in
    let h = some_power c.args.text.now c.in-Some.front.now c.in-Some.power.now (n.whole ++ point_bytes n.fraction) n.power free fine.power c.in-Some.ensures.found c.in-Some.ensures.none e in
    let q = c.in_err-right-in-Some.ensures.all h.0 h.2 h.4 in
    absurd cc

pub returns-in_ok-digits-in-None-clause-all : goal.returns-in_ok-digits-in-None-clause-all
returns-in_ok-digits-in-None-clause-all c = λ n fine s e.
    let free = mantissa_free n.whole n.fraction fine.mantissa in
    let h = no_power c.args.text.now (n.whole ++ point_bytes n.fraction) n.power free fine.power c.in-None.ensures.found e in
    let m = c.in_ok-digits-in-None.ensures.all n.whole n.fraction fine.mantissa h.1 in
    plain_is c.args.sign n c.in_ok-digits-in-None.digits c.in_ok-digits-in-None.left s h.0 m

pub returns-in_ok-digits-in-None-clause-some : goal.returns-in_ok-digits-in-None-clause-some
returns-in_ok-digits-in-None-clause-some c = λ t. plain_number c.args.sign c.args.text.now (c.in_ok-digits-in-None.ensures.some refl)

pub returns-in_ok-right-in-Some-clause-all : goal.returns-in_ok-right-in-Some-clause-all
returns-in_ok-right-in-Some-clause-all c = λ n fine s e.
    let free = mantissa_free n.whole n.fraction fine.mantissa in
    let h = some_power c.args.text.now c.in-Some.front.now c.in-Some.power.now (n.whole ++ point_bytes n.fraction) n.power free fine.power c.in-Some.ensures.found c.in-Some.ensures.none e in
    let m = c.in_ok-digits-in-Some.ensures.all n.whole n.fraction fine.mantissa h.3 in
    let q = c.in_ok-right-in-Some.ensures.all h.0 h.2 h.4 in
    full_is c.args.sign n h.0 c.in_ok-digits-in-Some.digits c.in_ok-digits-in-Some.behind c.in_ok-right-in-Some.right c.in_ok-right-in-Some.left s h.1 m q

pub returns-in_ok-right-in-Some-clause-some : goal.returns-in_ok-right-in-Some-clause-some
returns-in_ok-right-in-Some-clause-some c = λ t. full_number c.args.sign c.args.text.now c.in-Some.front.now c.in-Some.power.now c.in-Some.ensures.parts (c.in_ok-digits-in-Some.ensures.some refl) (c.in_ok-right-in-Some.ensures.some refl)
