-- n times so many steps, the powers of x by squaring: the loop over the digits of a count.
-- Assumes nothing.
use mathlib.Core.Path.{◌≡◌, sym, ap, ◌∙◌}
use Prim.Native.Nat.{ℕ, ◌+◌, ◌*◌, ◌/◌, ◌%◌, ◌^◌, ◌<◌}
use native.Mathlib.Nat.{add-mul, one-mul, mul_assoc, zero-mul}
use native.Mathlib.Omega.{arith}
use Rattle.crc32_rules.specs.Crc.{steps}
use Rattle.crc32_rules.specs.Power.{unit, times}
use Rattle.crc32_rules.proofs.Linear.{steps-add}
use Rattle.crc32_rules.proofs.Products.{times_steps}

-- e steps m times, by half of m: twice as many steps each time, and e before them where m is odd
halved : (e m : ℕ) → m * e ≡ m % 2 * e + m / 2 * (e + e)
halved e m =
    let two : m ≡ m % 2 + m / 2 * 2 = omega arith in
    let both : 2 * e ≡ e + e = omega arith in
    ap (λ (x : ℕ). x * e) two
    ∙ add-mul (m % 2) (m / 2 * 2) e
    ∙ ap (λ (x : ℕ). m % 2 * e + x) (mul_assoc (m / 2) 2 e ∙ ap (λ (x : ℕ). m / 2 * x) both)

-- no times any steps are none
no_steps : (e m s : ℕ) → m ≡ 0 → steps (m * e) s ≡ s
unfolding steps
no_steps e m s h = ap (λ (x : ℕ). steps (x * e) s) h ∙ ap (λ (x : ℕ). steps x s) (zero-mul e)

-- p is a power of x, and what is left gives the whole
pub record Now (whole state p m : ℕ) : Type 0 where
  pub exponent : ℕ
  pub power : p ≡ steps exponent unit
  pub left : whole ≡ steps (m * exponent) state
  pub state_fits : state < 2 ^ 32
  pub power_fits : p < 2 ^ 32

-- a turn: the state goes on where the count is odd, and then the power is squared where it is needed again
module _ {whole state p m : ℕ} (now : Now whole state p m) where
  by_power : (b r : ℕ) → b < 2 ^ 32 → r ≡ times b p → r ≡ steps now.exponent b
  by_power b r h e = e ∙ ap (times b) now.power ∙ times_steps now.exponent b h

  -- the state after the digit of the count
  abbrev pub Gone : ℕ → Type 0
  Gone next = (next < 2 ^ 32) × (next ≡ steps (m % 2 * now.exponent) state)

  pub even_gone : m % 2 ≡ 0 → Gone state
  even_gone h = (now.state_fits, sym (no_steps now.exponent (m % 2) state h))

  pub odd_gone : (t : ℕ) → t < 2 ^ 32 → t ≡ times state p → m % 2 ≡ 1 → Gone t
  odd_gone t ht et h = (
    ht,
    by_power state t now.state_fits et
        ∙ sym (ap (λ (x : ℕ). steps (x * now.exponent) state) h ∙ ap (λ (x : ℕ). steps x state) (one-mul now.exponent)),
  )

  left_after : (next : ℕ) → Gone next → whole ≡ steps (m / 2 * (now.exponent + now.exponent)) next
  left_after next gone =
      now.left
      ∙ ap (λ (x : ℕ). steps x state) (halved now.exponent m)
      ∙ steps-add (m % 2 * now.exponent) (m / 2 * (now.exponent + now.exponent)) state
      ∙ ap (steps (m / 2 * (now.exponent + now.exponent))) (sym gone.1)

  pub squared : (next p' : ℕ) → Gone next → p' < 2 ^ 32 → p' ≡ times p p → Now whole next p' (m / 2)
  squared next p' gone hp ep = record {
    exponent = now.exponent + now.exponent;
    power =
        by_power p p' now.power_fits ep
        ∙ ap (steps now.exponent) now.power
        ∙ sym (steps-add now.exponent now.exponent unit);
    left = left_after next gone;
    state_fits = gone.0;
    power_fits = hp;
  }

  pub kept : (next : ℕ) → Gone next → m / 2 ≡ 0 → Now whole next p (m / 2)
  kept next gone none = record {
    exponent = now.exponent;
    power = now.power;
    left =
        left_after next gone
        ∙ no_steps (now.exponent + now.exponent) (m / 2) next none
        ∙ sym (no_steps now.exponent (m / 2) next none);
    state_fits = gone.0;
    power_fits = now.power_fits;
  }

pub no_turn : {whole state p m : ℕ} → Now whole state p m → m ≡ 0 → state ≡ whole
no_turn {state} {m} now e = sym (now.left ∙ no_steps now.exponent m state e)
