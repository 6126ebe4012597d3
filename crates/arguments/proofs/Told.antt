-- What a result says in numbers tells the result: its number tells whether it is done, and which refusal it is.
use mathlib.Core.Path.{◌≡◌, refl, sym, ap, ◌∙◌}
use mathlib.Core.Bool.{cond}
use mathlib.Core.List.{List}
use Prim.Native.Nat.{ℕ, ◌*◌}
use lib.Dec.{eqb}
use lib.ListN.{get_or}
use lib.IntN.{ℤ, pos}
use Rattle.std.specs.Prelude.{Result, Ok, Err}
use Rattle.rules.specs.declared.Refusal.{Refusal}
use Rattle.rules.specs.declared.Refusal.TheVariants.{NotWhole, TooMany, BadWidth, NoSlot, BadRoom, BigScalar, BadPoint, AbsentPoint, Unequal, BadDigit}
use Rattle.rules.specs.declared.Element.{Element}
use Rattle.rules.specs.declared.Counts.{Counts}
use Rattle.rules.specs.declared.Walk.{Walk}
use Rattle.rules.specs.declared.Value.{Value}
use Rattle.rules.specs.declared.Counted.{Counted}
use Rattle.rules.specs.declared.Sum.{Sum}
use Rattle.rules.specs.Answers.{RowAnswer, ScalarBytes, WindowAnswer}
use Rattle.rules.specs.Values.{limbs_of}
use Rattle.rules.specs.Numbers.{number_of, as_number, valued, counted, summed}
use Rattle.rules.specs.Helpers.{value_done, counted_done, sum_done}
use Rattle.rules.specs.Results.{as_value, as_counted, as_sum, as_list, as_row, as_scalar_bytes, as_window}
use Rattle.laws.specs.Results.{refusal-not-0}

-- the refusal of a number
refusal_of : ℕ → Refusal
refusal_of n = cond (eqb n 1) NotWhole (cond (eqb n 2) TooMany (cond (eqb n 3) BadWidth (cond (eqb n 4) NoSlot (cond (eqb n 5) BadRoom (cond (eqb n 6) BigScalar (cond (eqb n 7) BadPoint (cond (eqb n 8) AbsentPoint (cond (eqb n 9) Unequal BadDigit))))))))

back : (r : Refusal) → refusal_of (number_of r) ≡ r
unfolding number_of refusal_of
back NotWhole = refl
back TooMany = refl
back BadWidth = refl
back NoSlot = refl
back BadRoom = refl
back BigScalar = refl
back BadPoint = refl
back AbsentPoint = refl
back Unequal = refl
back BadDigit = refl

pub number-told : (r s : Refusal) → number_of r ≡ number_of s → r ≡ s
number-told r s e = sym (back r) ∙ ap refusal_of e ∙ back s

-- a kind of answer by its number, and by what a done one carries
told : {A B : Type 0} (form : Result A Refusal → B) (number : B → ℕ) → ((x : A) → number (form (Ok x)) ≡ 0) → ((r : Refusal) → number (form (Err r)) ≡ number_of r)
    → ((x y : A) → form (Ok x) ≡ form (Ok y) → x ≡ y) → (a b : Result A Refusal) → form a ≡ form b → a ≡ b
told form number done refused carried (Ok x) (Ok y) e = ap Ok (carried x y e)
told form number done refused carried (Ok x) (Err s) e = absurd (refusal-not-0 s (sym (refused s) ∙ sym (ap number e) ∙ done x))
told form number done refused carried (Err r) (Ok y) e = absurd (refusal-not-0 r (sym (refused r) ∙ ap number e ∙ done y))
told form number done refused carried (Err r) (Err s) e = ap Err (number-told r s (sym (refused r) ∙ ap number e ∙ refused s))

pub question-told : {A : Type 0} (one : (x y : A) → x ≡ y) (a b : Result A Refusal) → as_number a ≡ as_number b → a ≡ b
unfolding as_number
question-told one a b e = told as_number (λ n. n) (λ x. refl) (λ r. refl) (λ x y _. one x y) a b e

pub asked-told : (a b : Result (Unit {0}) Refusal) → as_number a ≡ as_number b → a ≡ b
asked-told = question-told one
  where
    one : (x y : Unit {0}) → x ≡ y
    one x y = refl

-- an element by its limbs
element-told : (x y : Element) → limbs_of x ≡ limbs_of y → x ≡ y
element-told x y e =
    let a = ap (λ (l : List ℕ). get_or l 0 0) e in
    let b = ap (λ (l : List ℕ). get_or l 1 0) e in
    let c = ap (λ (l : List ℕ). get_or l 2 0) e in
    let d = ap (λ (l : List ℕ). get_or l 3 0) e in
    same a b c d
  where
    same : {a b c d a' b' c' d' : ℕ} → a ≡ a' → b ≡ b' → c ≡ c' → d ≡ d'
        → ◌≡◌ {A = Element} (record { l0 = a; l1 = b; l2 = c; l3 = d }) (record { l0 = a'; l1 = b'; l2 = c'; l3 = d' })
    same p q r s = cc

pub value-told : (a b : Result Element Refusal) → as_value a ≡ as_value b → a ≡ b
unfolding as_value value_done valued
value-told a b e = told as_value (λ (v : Value). v.number) (λ x. refl) (λ r. refl) (λ x y q. element-told x y (ap (λ (v : Value). v.value) q)) a b e

pub counted-told : (a b : Result Counts Refusal) → as_counted a ≡ as_counted b → a ≡ b
unfolding as_counted counted_done counted
counted-told a b e = told as_counted (λ (v : Counted). v.number) (λ x. refl) (λ r. refl) (λ x y q. same (ap (λ (v : Counted). v.additions) q) (ap (λ (v : Counted). v.doublings) q)) a b e
  where
    same : {a d a' d' : ℕ} → a ≡ a' → d ≡ d' → ◌≡◌ {A = Counts} (record { additions = a; doublings = d }) (record { additions = a'; doublings = d' })
    same p q = cc

pub sum-told : (a b : Result Walk Refusal) → as_sum a ≡ as_sum b → a ≡ b
unfolding as_sum sum_done summed
sum-told a b e =
    told as_sum (λ (v : Sum). v.number) (λ x. refl) (λ r. refl)
    (λ x y q. same (element-told x.element y.element (ap (λ (v : Sum). v.value) q)) (ap (λ (v : Sum). v.additions) q) (ap (λ (v : Sum). v.doublings) q)) a b e
  where
    same : {n n' : Element} {a d a' d' : ℕ} → n ≡ n' → a ≡ a' → d ≡ d'
        → ◌≡◌ {A = Walk} (record { element = n; additions = a; doublings = d }) (record { element = n'; additions = a'; doublings = d' })
    same p q r = cc

pub row-told : (n : ℕ) (a b : Result (List ℤ) Refusal) → as_row n a ≡ as_row n b → a ≡ b
unfolding as_row
row-told n a b e = told (as_row n) (λ (v : RowAnswer n). v.number) (λ x. refl) (λ r. refl) (λ x y q. ap (λ (v : RowAnswer n). v.row) q) a b e

pub bytes-told : (a b : Result (List ℕ) Refusal) → as_scalar_bytes a ≡ as_scalar_bytes b → a ≡ b
unfolding as_scalar_bytes
bytes-told a b e = told as_scalar_bytes (λ (v : ScalarBytes). v.number) (λ x. refl) (λ r. refl) (λ x y q. ap (λ (v : ScalarBytes). v.bytes) q) a b e

pub window-told : (n : ℕ) (a b : Result (List ℕ) Refusal) → as_window n a ≡ as_window n b → a ≡ b
unfolding as_window
window-told n a b e = told (as_window n) (λ (v : WindowAnswer n). v.number) (λ x. refl) (λ r. refl) (λ x y q. ap (λ (v : WindowAnswer n). v.limbs) q) a b e

-- the number and the list of a row, of bytes and of a window are the fields of its form
pub row-listed : (n : ℕ) (r : Result (List ℤ) Refusal) → ◌≡◌ {A = RowAnswer n} (as_row n r) (record { number = as_number r; row = as_list n (pos 0) r })
unfolding as_row as_number as_list
row-listed n (Ok l) = refl
row-listed n (Err r) = refl

pub bytes-listed : (r : Result (List ℕ) Refusal) → ◌≡◌ {A = ScalarBytes} (as_scalar_bytes r) (record { number = as_number r; bytes = as_list 32 0 r })
unfolding as_scalar_bytes as_number as_list
bytes-listed (Ok l) = refl
bytes-listed (Err r) = refl

pub window-listed : (n : ℕ) (r : Result (List ℕ) Refusal) → ◌≡◌ {A = WindowAnswer n} (as_window n r) (record { number = as_number r; limbs = as_list (4 * n) 0 r })
unfolding as_window as_number as_list
window-listed n (Ok l) = refl
window-listed n (Err r) = refl
