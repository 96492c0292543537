-- Test vectors of other decoders: predictors, stereo modes and coded numbers.
use Rattle.std.proofs.Common.{◌≡◌, ℕ, List, [], ◌∷◌, reverse, drop, refl, ℤ, pos, negsuc}
use Rattle.std.specs.Int.{int_wrap}
use Rattle.claxon_format.specs.Fault.{NumberFirst}
use Rattle.claxon_format.specs.Bits.{bits, bits_of, number, residue}
use Rattle.claxon_format.specs.read.Bits.{twos_complement, zigzag_decode, number_at}
use Rattle.claxon_format.specs.read.Reading.{Reading, Done, Faulty}
use Rattle.claxon_format.specs.read.Predict.{restored, fixed}
use Rattle.claxon_format.specs.Predict.{linear}
use Rattle.claxon_format.specs.read.CodedNumber.{continuation_byte_at, continuation_bytes_at, coded_number_at, coded_number_bits_at}
use Rattle.claxon_format.specs.read.Stereo.{decoded_pair}
use Rattle.claxon_format.specs.read.Bytes.{by_bytes}

-- ---- predictors

fixed_3 : restored (fixed 3) 3 (negsuc 728 ∷ negsuc 721 ∷ negsuc 666 ∷ negsuc 18 ∷ negsuc 15 ∷ pos 17 ∷ negsuc 22 ∷ negsuc 6 ∷ pos 16 ∷ negsuc 15 ∷ negsuc 4 ∷ pos 3 ∷ negsuc 7 ∷ negsuc 12 ∷ negsuc 14 ∷ negsuc 0 ∷ [])
    ≡ (negsuc 728 ∷ negsuc 721 ∷ negsuc 666 ∷ negsuc 582 ∷ negsuc 485 ∷ negsuc 358 ∷ negsuc 224 ∷ negsuc 90 ∷ pos 59 ∷ pos 209 ∷ pos 354 ∷ pos 497 ∷ pos 630 ∷ pos 740 ∷ pos 812 ∷ pos 845 ∷ [])
unfolding int_wrap
fixed_3 = refl

fixed_2 : restored (fixed 2) 2 (pos 21877 ∷ pos 27482 ∷ negsuc 6512 ∷ []) ≡ (pos 21877 ∷ pos 27482 ∷ pos 26574 ∷ [])
unfolding int_wrap
fixed_2 = refl

linear_7 : restored (linear (reverse (negsuc 74 ∷ pos 166 ∷ pos 121 ∷ negsuc 268 ∷ negsuc 74 ∷ negsuc 398 ∷ pos 1042 ∷ [])) 9) 7 (negsuc 795 ∷ negsuc 546 ∷ negsuc 284 ∷ negsuc 31 ∷ pos 199 ∷ pos 443 ∷ pos 670 ∷ negsuc 1 ∷ negsuc 22 ∷ pos 14 ∷ pos 6 ∷ pos 3 ∷ negsuc 3 ∷ pos 12 ∷ negsuc 1 ∷ pos 10 ∷ [])
    ≡ (negsuc 795 ∷ negsuc 546 ∷ negsuc 284 ∷ negsuc 31 ∷ pos 199 ∷ pos 443 ∷ pos 670 ∷ pos 875 ∷ pos 1046 ∷ pos 1208 ∷ pos 1343 ∷ pos 1454 ∷ pos 1541 ∷ pos 1616 ∷ pos 1663 ∷ pos 1701 ∷ [])
unfolding int_wrap
linear_7 = refl

linear_7_negative : drop 7 (restored (linear (reverse (pos 119 ∷ negsuc 254 ∷ pos 555 ∷ negsuc 835 ∷ pos 879 ∷ negsuc 1198 ∷ pos 1757 ∷ [])) 10) 7 (negsuc 21362 ∷ negsuc 21950 ∷ negsuc 22648 ∷ negsuc 24363 ∷ negsuc 27296 ∷ negsuc 26869 ∷ negsuc 30016 ∷ pos 3157 ∷ [])) ≡ (negsuc 29717 ∷ [])
unfolding int_wrap
linear_7_negative = refl

linear_20 : drop 20 (restored (linear (reverse (pos 709 ∷ negsuc 2588 ∷ pos 4600 ∷ negsuc 4611 ∷ pos 1350 ∷ pos 4220 ∷ negsuc 9742 ∷ pos 12671 ∷ negsuc 12128 ∷ pos 8586 ∷ negsuc 3774 ∷ negsuc 644 ∷ pos 3904 ∷ negsuc 5542 ∷ pos 4373 ∷ pos 182 ∷ negsuc 6872 ∷ pos 13265 ∷ negsuc 15416 ∷ pos 11550 ∷ [])) 12) 20 (pos 213238 ∷ pos 210830 ∷ pos 234493 ∷ pos 209515 ∷ pos 235139 ∷ pos 201836 ∷ pos 208151 ∷ pos 186277 ∷ pos 157720 ∷ pos 148176 ∷ pos 115037 ∷ pos 104836 ∷ pos 60794 ∷ pos 54523 ∷ pos 412 ∷ pos 17943 ∷ negsuc 6024 ∷ negsuc 3712 ∷ pos 8373 ∷ pos 11764 ∷ pos 30094 ∷ [])) ≡ (pos 33931 ∷ [])
unfolding int_wrap
linear_20 = refl

-- ---- stereo

left : List ℤ
left = pos 2 ∷ pos 5 ∷ pos 83 ∷ pos 113 ∷ pos 127 ∷ negsuc 62 ∷ negsuc 44 ∷ negsuc 14 ∷ []

right : List ℤ
right = negsuc 4 ∷ negsuc 32 ∷ negsuc 58 ∷ negsuc 124 ∷ pos 127 ∷ pos 89 ∷ pos 7 ∷ pos 3 ∷ []

side : List ℤ
side = pos 7 ∷ pos 38 ∷ pos 142 ∷ pos 238 ∷ pos 0 ∷ negsuc 151 ∷ negsuc 51 ∷ negsuc 17 ∷ []

left_and_side : decoded_pair 8 (left ∷ side ∷ []) ≡ left ∷ right ∷ []
unfolding int_wrap residue left right side
left_and_side = refl

side_and_right : decoded_pair 9 (side ∷ right ∷ []) ≡ left ∷ right ∷ []
unfolding int_wrap residue left right side
side_and_right = refl

mid_and_side : decoded_pair 10 ((negsuc 1 ∷ negsuc 13 ∷ pos 12 ∷ negsuc 5 ∷ pos 127 ∷ pos 13 ∷ negsuc 18 ∷ negsuc 5 ∷ []) ∷ side ∷ []) ≡ left ∷ right ∷ []
unfolding int_wrap residue left right side
mid_and_side = refl

-- ---- numbers

zigzag_decoded : zigzag_decode 0 ∷ zigzag_decode 1 ∷ zigzag_decode 2 ∷ zigzag_decode 3 ∷ zigzag_decode 4 ∷ [] ≡ pos 0 ∷ negsuc 0 ∷ pos 1 ∷ negsuc 1 ∷ pos 2 ∷ []
zigzag_decoded = refl

signed_4_low : twos_complement 4 5 ≡ pos 5
unfolding twos_complement
signed_4_low = refl

signed_4 : twos_complement 4 11 ≡ negsuc 4
unfolding twos_complement
signed_4 = refl

signed_31 : twos_complement 31 1073741822 ≡ pos 1073741822
unfolding twos_complement
signed_31 = refl

signed_32 : twos_complement 32 4294967295 ≡ negsuc 0
unfolding twos_complement
signed_32 = refl

signed_17 : twos_complement 17 124680 ≡ negsuc 6391
unfolding twos_complement
signed_17 = refl

coded : List ℕ → Reading ℕ ℕ
unfolding bits bits_of number number_at continuation_byte_at continuation_bytes_at coded_number_at
coded s = by_bytes coded_number_bits_at s

coded_1 : coded (0x24 ∷ 0xc2 ∷ 0xa2 ∷ 0xe2 ∷ 0x82 ∷ 0xac ∷ 0xf0 ∷ 0x90 ∷ 0x8d ∷ 0x88 ∷ 0xc2 ∷ 0x00 ∷ 0x80 ∷ []) ≡ Done 36 (0xc2 ∷ 0xa2 ∷ 0xe2 ∷ 0x82 ∷ 0xac ∷ 0xf0 ∷ 0x90 ∷ 0x8d ∷ 0x88 ∷ 0xc2 ∷ 0x00 ∷ 0x80 ∷ [])
unfolding coded
coded_1 = refl

coded_2 : coded (0xc2 ∷ 0xa2 ∷ 0xe2 ∷ 0x82 ∷ 0xac ∷ 0xf0 ∷ 0x90 ∷ 0x8d ∷ 0x88 ∷ 0xc2 ∷ 0x00 ∷ 0x80 ∷ []) ≡ Done 162 (0xe2 ∷ 0x82 ∷ 0xac ∷ 0xf0 ∷ 0x90 ∷ 0x8d ∷ 0x88 ∷ 0xc2 ∷ 0x00 ∷ 0x80 ∷ [])
unfolding coded
coded_2 = refl

coded_3 : coded (0xe2 ∷ 0x82 ∷ 0xac ∷ 0xf0 ∷ 0x90 ∷ 0x8d ∷ 0x88 ∷ 0xc2 ∷ 0x00 ∷ 0x80 ∷ []) ≡ Done 8364 (0xf0 ∷ 0x90 ∷ 0x8d ∷ 0x88 ∷ 0xc2 ∷ 0x00 ∷ 0x80 ∷ [])
unfolding coded
coded_3 = refl

coded_4 : coded (0xf0 ∷ 0x90 ∷ 0x8d ∷ 0x88 ∷ 0xc2 ∷ 0x00 ∷ 0x80 ∷ []) ≡ Done 66376 (0xc2 ∷ 0x00 ∷ 0x80 ∷ [])
unfolding coded
coded_4 = refl

coded_bad : coded (0x80 ∷ []) ≡ Faulty NumberFirst []
unfolding coded
coded_bad = refl
