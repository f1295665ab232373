-- Numbers of up to 30 digits, and their products with units in two halves.
use Rattle.std.proofs.Common.{◌≡◌, ℕ, suc, ◌+◌, ◌-◌, ◌*◌, ◌/◌, ◌%◌, ◌^◌, ◌≤◌, ◌<◌, true, cond, List, [], ◌∷◌, Option, Some, None, IfSome, length, drop, get_or, leb, refl, ap, ◌∙◌, arith}
use Rattle.std.proofs.lemmas.Bool.{lt-leb}
use Rattle.std.proofs.lemmas.Bool.Decides.{nat_tests}
use Rattle.std.proofs.lemmas.Nat.{pow-add}
use Rattle.std.proofs.Math.Nat.{add-mul-div_right, mul-le-mul_right}
use Rattle.odb_base.proofs.Decimals.{ten_bound, ten_some}
use Rattle.ld_words.specs.Decimal.{rounded}

-- a power of up to thirty
pub up_to_thirty : (k : ℕ) → k ≤ 30 → (0 < 10 ^ k) × (10 ^ k ≤ 10 ^ 30)
up_to_thirty k le = (omega (arith, ten_some k), ten_bound k 30 le)

-- a power of up to thirteen
pub short_bound : (k : ℕ) → k ≤ 13 → 1 * 10 ^ k ≤ 10 ^ 13
short_bound k le = omega (arith, ten_bound k 13 le)

-- a product in two halves
pub rounded_halves : (whole units d : ℕ) → 0 < d
    → rounded (whole * units) d ≡ whole * (units / 65536) / d * 65536 + (2 * (whole * (units / 65536) % d * 65536 + whole * (units % 65536)) + d) / (2 * d)
rounded_halves whole units d some =
    let high = units / 65536 in
    let low = units % 65536 in
    let quotient = whole * high / d in
    let rest = whole * high % d in
    let parts : units ≡ 65536 * high + low = omega arith in
    let product : whole * units ≡ whole * (65536 * high + low) = ap (λ (u : ℕ). whole * u) parts in
    let split : d * quotient + rest ≡ whole * high = omega arith in
    let sum : 2 * (whole * units) + d ≡ 2 * (rest * 65536 + whole * low) + d + quotient * 65536 * (2 * d) = omega (arith, product, split) in
    let wide : 0 < 2 * d = omega arith in
    ap (λ (n : ℕ). n / (2 * d)) sum ∙ add-mul-div_right (2 * (rest * 65536 + whole * low) + d) (quotient * 65536) wide ∙ omega arith

-- a number within the limit, and one beyond it
pub bounded : (n m limit : ℕ) → n ≡ m → m ≤ limit → Some m ≡ cond (leb n limit) (Some n) None
bounded n m limit is le = let t : leb m limit ≡ true = grind (arith, nat_tests) in rw (is, t) refl

pub unbounded : (n limit : ℕ) → limit < n → None ≡ cond (leb n limit) (Some n) None
unbounded n limit lt = rw (lt-leb n limit lt) refl

-- room for the digits of the front
pub front_room : (front back : ℕ) → front + back ≤ 30 → 1 * 10 ^ front ≤ 10 ^ 38
front_room front back fits = omega (arith, ten_bound front 38 (omega arith))

-- and behind their number for those of the back
pub back_room : (n front back : ℕ) → front + back ≤ 30 → n + 1 ≤ 1 * 10 ^ front → (n + 1) * 10 ^ back ≤ 10 ^ 30
back_room n front back fits le =
    let product : 10 ^ (front + back) ≡ 10 ^ front * 10 ^ back = pow-add 10 front back in
    omega (arith, mul-le-mul_right (10 ^ back) le, product, ten_bound (front + back) 30 fits)

-- which is less than what any digits may have
pub wide_room : (n : ℕ) → n ≤ 10 ^ 30 → n ≤ 10 ^ 38
wide_room n le = omega (arith, le, ten_bound 30 38 (omega arith))

-- a number below what there is room for
pub below_room : (o : Option ℕ) (bound room : ℕ) → IfSome o (λ n. n + 1 ≤ bound) → bound ≤ room → IfSome o (λ n. n < room)
below_room None bound room h le = tt
below_room (Some n) bound room h le = omega (arith, h)
