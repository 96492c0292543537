-- Decorrelation is undone in place.
use Rattle.std.proofs.Common.{◌≡◌, ℕ, ◌+◌, ◌-◌, ◌*◌, ◌%◌, ◌^◌, ◌<◌, ◌≤◌, List, [], ◌∷◌, ◌++◌, length, take, drop, get_or, set, zero, suc, refl, sym, ap, ap₂, subst, ◌∙◌, arith, ℤ, pos, negsuc, ◌+ℤ◌, ◌*ℤ◌, to_z, of_z, w32, FitsSigned, bit_or, bit_and}
use Rattle.std.specs.Int.Signed.{shr_z, mag_shr}
use Rattle.std.proofs.lemmas.Int.{to_z-of_z, ints}
use Rattle.std.proofs.lemmas.List.{take_more_set, drop_more, drop-set-lt, take_all, take_at, drop_at}
use Rattle.std.proofs.lemmas.Nat.{and_mask, or_shifted}
use Rattle.claxon_format.specs.Bits.{residue}
use Rattle.claxon_format.specs.Predict.{wrap, floor_shift}
use Rattle.claxon_format.specs.Stereo.{parity, zipped}
use Rattle.claxon_format.specs.read.Stereo.{left_of, right_of, decoded_pair}
use Rattle.claxon_frame.specs.Block.{chunks}
use Rattle.claxon_format.proofs.WrappingArithmetic.{Represents, represents_fits, represents_add, represents_sub, represents_mul, represents_num}

-- ---- one pair of samples

pub left_side_is : (a b : ℤ) → FitsSigned w32 a → FitsSigned w32 b → to_z w32 ((of_z w32 a + (4294967296 - of_z w32 b)) % 4294967296) ≡ right_of 8 a b
left_side_is a b fa fb = (represents_sub (represents_fits a fa) (represents_fits b fb)).value

pub right_side_is : (a b : ℤ) → FitsSigned w32 a → FitsSigned w32 b → to_z w32 ((of_z w32 a + of_z w32 b) % 4294967296) ≡ left_of 9 a b
right_side_is a b fa fb = (represents_add (represents_fits a fa) (represents_fits b fb)).value

-- the lowest bit is the parity
parity_is : (b : ℤ) → FitsSigned w32 b → pos (of_z w32 b % 2) ≡ parity b
unfolding residue
parity_is (pos n) f = ap pos (omega (arith, f.sfits))
parity_is (negsuc n) f = ap pos (omega (arith, f.sfits))

rep_parity : (b : ℤ) → FitsSigned w32 b → Represents w32 (of_z w32 b % 2) (parity b)
rep_parity b f = subst (λ (z : ℤ). Represents w32 (of_z w32 b % 2) z) (parity_is b f) (represents_num (of_z w32 b % 2) (omega arith))

-- twice mid, with the lowest bit of side
summed : (m n : ℕ) → bit_or (m * 2 % 4294967296) (bit_and n 1) ≡ (m * 2 % 4294967296 + n % 2) % 4294967296
summed m n =
    let low : bit_and n 1 ≡ n % 2 = and_mask n 1 in
    let even : m * 2 % 4294967296 ≡ (m % 2147483648) * 2 ^ 1 = omega arith in
    ap₂ bit_or even low ∙ or_shifted (m % 2147483648) 1 (n % 2) (omega arith) ∙ omega arith

rep_sum : (a b : ℤ) → FitsSigned w32 a → FitsSigned w32 b → Represents w32 (bit_or (of_z w32 a * 2 % 4294967296) (bit_and (of_z w32 b) 1)) (pos 2 *ℤ a +ℤ parity b)
rep_sum a b fa fb =
    let twice : a *ℤ pos 2 ≡ pos 2 *ℤ a = omega (arith, ints) in
    subst (λ (z : ℤ). Represents w32 (bit_or (of_z w32 a * 2 % 4294967296) (bit_and (of_z w32 b) 1)) (z +ℤ parity b)) twice
    (subst (λ (n : ℕ). Represents w32 n (a *ℤ pos 2 +ℤ parity b)) (sym (summed (of_z w32 a) (of_z w32 b))) (represents_add (represents_mul (represents_fits a fa) (represents_num 2 (omega arith))) (rep_parity b fb)))

halved : (y : ℤ) → shr_z y 2 ≡ floor_shift y 1
halved (pos n) = refl
halved (negsuc n) = refl

half_fits : (y : ℤ) → FitsSigned w32 y → FitsSigned w32 (shr_z y 2)
half_fits y f = record { sfits = omega (arith, f.sfits, mag_shr y 2) }

half_is : (n : ℕ) (y z : ℤ) → Represents w32 n z → y ≡ to_z w32 n → FitsSigned w32 y → to_z w32 (of_z w32 (shr_z y 2)) ≡ floor_shift (wrap z) 1
half_is n y z r e f = to_z-of_z w32 (shr_z y 2) (half_fits y f) ∙ halved y ∙ ap (λ (x : ℤ). floor_shift x 1) (e ∙ r.value)

pub mid_left_is : (a b y : ℤ) → FitsSigned w32 a → FitsSigned w32 b → FitsSigned w32 y → y ≡ to_z w32 ((bit_or (of_z w32 a * 2 % 4294967296) (bit_and (of_z w32 b) 1) + of_z w32 b) % 4294967296)
    → to_z w32 (of_z w32 (shr_z y 2)) ≡ left_of 10 a b
mid_left_is a b y fa fb fy e = half_is _ y _ (represents_add (rep_sum a b fa fb) (represents_fits b fb)) e fy

pub mid_right_is : (a b y : ℤ) → FitsSigned w32 a → FitsSigned w32 b → FitsSigned w32 y → y ≡ to_z w32 ((bit_or (of_z w32 a * 2 % 4294967296) (bit_and (of_z w32 b) 1) + (4294967296 - of_z w32 b)) % 4294967296)
    → to_z w32 (of_z w32 (shr_z y 2)) ≡ right_of 10 a b
mid_right_is a b y fa fb fy e = half_is _ y _ (represents_sub (rep_sum a b fa fb) (represents_fits b fb)) e fy

-- ---- all pairs before an index

zipped_suc : (f : ℤ → ℤ → ℤ) (xs ys : List ℤ) (i : ℕ) → i < length xs → i < length ys → zipped f (take (suc i) xs) (take (suc i) ys) ≡ zipped f (take i xs) (take i ys) ++ f (get_or xs i (pos 0)) (get_or ys i (pos 0)) ∷ []
zipped_suc f [] ys i lx ly = absurd (omega arith)
zipped_suc f (a ∷ xs) [] i lx ly = absurd (omega arith)
zipped_suc f (a ∷ xs) (b ∷ ys) zero lx ly = refl
zipped_suc f (a ∷ xs) (b ∷ ys) (suc i) lx ly = ap (λ (t : List ℤ). f a b ∷ t) (zipped_suc f xs ys i (omega arith) (omega arith))

zipped_more : (f : ℤ → ℤ → ℤ) (xs ys : List ℤ) (i : ℕ) → i < length xs → i < length ys → zipped f (take (i + 1) xs) (take (i + 1) ys) ≡ zipped f (take i xs) (take i ys) ++ f (get_or xs i (pos 0)) (get_or ys i (pos 0)) ∷ []
zipped_more f xs ys i lx ly = let e : i + 1 ≡ suc i = omega arith in ap (λ (n : ℕ). zipped f (take n xs) (take n ys)) e ∙ zipped_suc f xs ys i lx ly

-- the first i samples of zs are f of those of xs and ys, and the others are unchanged
pub record ZippedUpTo (f : ℤ → ℤ → ℤ) (xs ys were zs : List ℤ) (i : ℕ) : Type 0 where
  pub done : take i zs ≡ zipped f (take i xs) (take i ys)
  pub rest : drop i zs ≡ drop i were

-- the sample at i is unchanged
pub zipped_here : {f : ℤ → ℤ → ℤ} {xs ys were zs : List ℤ} {i : ℕ} → i < length zs → i < length were → ZippedUpTo f xs ys were zs i → get_or zs i (pos 0) ≡ get_or were i (pos 0)
zipped_here {were = were} {zs = zs} {i = i} lz lw h =
    let both : get_or zs i (pos 0) ∷ drop (i + 1) zs ≡ get_or were i (pos 0) ∷ drop (i + 1) were = sym (drop_more zs i (pos 0) lz) ∙ h.rest ∙ drop_more were i (pos 0) lw in cc both

pub zipped_next : {f : ℤ → ℤ → ℤ} {xs ys were zs : List ℤ} {i : ℕ} (z : ℤ) → i < length xs → i < length ys → i < length zs → i < length were → ZippedUpTo f xs ys were zs i → z ≡ f (get_or xs i (pos 0)) (get_or ys i (pos 0))
    → ZippedUpTo f xs ys were (set zs i z) (i + 1)
zipped_next {f = f} {xs = xs} {ys = ys} {were = were} {zs = zs} {i = i} z lx ly lz lw h e =
    let both : get_or zs i (pos 0) ∷ drop (i + 1) zs ≡ get_or were i (pos 0) ∷ drop (i + 1) were = sym (drop_more zs i (pos 0) lz) ∙ h.rest ∙ drop_more were i (pos 0) lw in
    let after : drop (i + 1) zs ≡ drop (i + 1) were = cc both in
    record {
      done = take_more_set zs i z lz ∙ ap₂ (λ (t : List ℤ) (y : ℤ). t ++ y ∷ []) h.done e ∙ sym (zipped_more f xs ys i lx ly);
      rest = drop-set-lt (i + 1) zs i z (omega arith) ∙ after;
    }

pub zipped_end : {f : ℤ → ℤ → ℤ} {xs ys were zs : List ℤ} {i : ℕ} → length xs ≤ i → length ys ≤ i → length zs ≤ i → ZippedUpTo f xs ys were zs i → zs ≡ zipped f xs ys
zipped_end {f = f} {xs = xs} {ys = ys} {zs = zs} {i = i} lx ly lz h = sym (take_all i zs lz) ∙ h.done ∙ ap₂ (zipped f) (take_all i xs lx) (take_all i ys ly)

-- ---- two halves

pub two_chunks : (n : ℕ) (xs ys : List ℤ) → length xs ≡ n → length ys ≡ n → chunks 2 n (xs ++ ys) ≡ xs ∷ ys ∷ []
two_chunks n xs ys ex ey = rw (take_at xs ys n ex, drop_at xs ys n ex, take_all n ys (omega arith)) refl

pub halves_are : (code n : ℕ) (xs ys ls rs : List ℤ) → length xs ≡ n → length ys ≡ n → length ls ≡ n → length rs ≡ n → ls ≡ zipped (left_of code) xs ys → rs ≡ zipped (right_of code) xs ys
    → chunks 2 n (ls ++ rs) ≡ decoded_pair code (chunks 2 n (xs ++ ys))
halves_are code n xs ys ls rs ex ey el er l r = two_chunks n ls rs el er ∙ ap₂ (λ (a b : List ℤ). a ∷ b ∷ []) l r ∙ sym (ap (decoded_pair code) (two_chunks n xs ys ex ey))

-- one of the two channels is unchanged
pub zipped_first : (xs ys : List ℤ) → length xs ≡ length ys → xs ≡ zipped (λ a b. a) xs ys
zipped_first [] ys e = refl
zipped_first (a ∷ xs) [] e = absurd (omega (arith, e))
zipped_first (a ∷ xs) (b ∷ ys) e = ap (λ (t : List ℤ). a ∷ t) (zipped_first xs ys (omega (arith, e)))

pub zipped_second : (xs ys : List ℤ) → length xs ≡ length ys → ys ≡ zipped (λ a b. b) xs ys
zipped_second [] [] e = refl
zipped_second [] (b ∷ ys) e = absurd (omega (arith, e))
zipped_second (a ∷ xs) [] e = absurd (omega (arith, e))
zipped_second (a ∷ xs) (b ∷ ys) e = ap (λ (t : List ℤ). b ∷ t) (zipped_second xs ys (omega (arith, e)))
