-- Laws of the header: its numbers mean settings, switch and count, and good numbers are those of what they mean.
use Rattle.std.specs.Prelude.{ℕ, ◌+◌, ◌*◌, ◌/◌, ◌%◌, ◌^◌, ◌≤◌, ◌<◌, ◌≡◌, Bool, false, ◌&&◌, length, set}
use Rattle.std.proofs.Math.Path.{refl, ap}
use Rattle.std.proofs.Common.{sym, ◌∙◌, inr, length-set, get_or-set_same}
use Rattle.std.proofs.Math.Bool.{true}
use mathlib.Core.List.{List, [], ◌∷◌, ◌++◌, append-nil, append_assoc}
use Rattle.std.proofs.Math.Nat.{div-one, div-div-eq-div-mul}
use native.Mathlib.Omega.{arith}
use Rattle.std.proofs.Math.Dec.{eqb, leb}
use Rattle.std.proofs.Math.ListN.{get_or}
use mir.Val.{bool_byte}
use borrow.Author.Tests.{leb-true, le-leb, eqb-true, eq-eqb}
use Rattle.theory.specs.Bools.{both, bit_fits}
use Rattle.place.specs.Table.{capacity}
use Rattle.controller.specs.declared.controller.GicV3SpiOwnership.{GicV3SpiOwnership}
use Rattle.controller.specs.declared.controller.GicV3SpiOwnership.TheVariants.{AllGuestOwned, Explicit}
use Rattle.controller.specs.declared.controller.ControllerConfig.{ControllerConfig}
use Rattle.controller.specs.Modes.{explicit, ownership_of}
use Rattle.image.specs.Bytes.{byte_of, bit_of, bytes_of, number_at, flat, Bytes}
use Rattle.image.specs.ByteLaws.{bytes_listed, bytes_split, number_beside, number_fits}
use Rattle.image.specs.BitLaws.{flagged, reads_as, read_bit}
use Rattle.image.specs.Header.{good_header, header_in, header_of, good_image, first_word, header_words}
use Rattle.image.specs.HeaderLaws.{Fitting}

-- ---- the numbers of a header

owner_back : (o : GicV3SpiOwnership) → ownership_of (explicit o) ≡ o
owner_back AllGuestOwned = refl
owner_back Explicit = refl

pub owner-set : (b : Bool) → explicit (ownership_of b) ≡ b
owner-set true = refl
owner-set false = refl

module _ (c : ControllerConfig) (on : Bool) (n : ℕ) (fit : Fitting c n) where
  abbrev owner : Bool
  owner = explicit c.spi_ownership

  abbrev first : ℕ
  first = first_word c on n

  -- what the first number holds, and that each flag is 0 or 1
  record Laid : Type 0 where
    sum : first ≡ bool_byte on + 2 ^ 8 * bool_byte owner + 2 ^ 16 * bool_byte c.exposes_guest_lpis + 2 ^ 17 * bool_byte c.its
        + 2 ^ 18 * bool_byte c.affinity_level_3 + 2 ^ 19 * bool_byte c.range_selector + 2 ^ 32 * n
    on_fits : bool_byte on < 2
    owner_fits : bool_byte owner < 2
    lpis_fits : bool_byte c.exposes_guest_lpis < 2
    its_fits : bool_byte c.its < 2
    level3_fits : bool_byte c.affinity_level_3 < 2
    range_fits : bool_byte c.range_selector < 2

  laid : Laid
  unfolding first_word
  laid =
      record {
        sum = refl;
        on_fits = bit_fits on;
        owner_fits = bit_fits owner;
        lpis_fits = bit_fits c.exposes_guest_lpis;
        its_fits = bit_fits c.its;
        level3_fits = bit_fits c.affinity_level_3;
        range_fits = bit_fits c.range_selector;
      }

  switch_byte : byte_of 0 first ≡ bool_byte on
  switch_byte = rw div-one (omega (arith, laid))

  owner_byte : byte_of 1 first ≡ bool_byte owner
  owner_byte = omega (arith, laid)

  count_there : first / 2 ^ 32 ≡ n
  count_there = omega (arith, laid)

  -- the three numbers of a header mean it
  pub header_of_words : header_in first c.lpi_limit c.distributor_size ≡ record { config = c; enabled = on; spi_count = n }
  unfolding header_in
  header_of_words =
      let explicitly : ownership_of (eqb (byte_of 1 first) 1) ≡ c.spi_ownership = ap ownership_of (reads_as (byte_of 1 first) owner owner_byte) ∙ owner_back c.spi_ownership in
      let lpis : bit_of 2 0 first ≡ c.exposes_guest_lpis = reads_as (first / 2 ^ 16 % 2) _ (omega (arith, laid)) in
      let its : bit_of 2 1 first ≡ c.its = reads_as (first / 2 ^ 17 % 2) _ (omega (arith, laid)) in
      let level3 : bit_of 2 2 first ≡ c.affinity_level_3 = reads_as (first / 2 ^ 18 % 2) _ (omega (arith, laid)) in
      let range : bit_of 2 3 first ≡ c.range_selector = reads_as (first / 2 ^ 19 % 2) _ (omega (arith, laid)) in
      let limit : c.lpi_limit % 2 ^ 32 ≡ c.lpi_limit = omega arith in
      let enabled : eqb (byte_of 0 first) 1 ≡ on = reads_as (byte_of 0 first) on switch_byte in
      let count : first / 2 ^ 32 % 2 ^ 32 ≡ n = omega (arith, laid) in
      λ k. record {
        config = record { spi_ownership = explicitly k; distributor_size = c.distributor_size; exposes_guest_lpis = lpis k; its = its k; lpi_limit = limit k; affinity_level_3 = level3 k; range_selector = range k };
        enabled = enabled k;
        spi_count = count k;
      }

  -- they are good
  pub words-good : good_header first c.lpi_limit ≡ true
  unfolding good_header
  words-good =
      let switch : leb (byte_of 0 first) 1 ≡ true = le-leb (byte_of 0 first) 1 (rw switch_byte (omega (arith, laid))) in
      let owned : leb (byte_of 1 first) 1 ≡ true = le-leb (byte_of 1 first) 1 (rw owner_byte (omega (arith, laid))) in
      let four : leb (byte_of 2 first) 15 ≡ true = le-leb (byte_of 2 first) 15 (omega (arith, laid)) in
      let none : eqb (byte_of 3 first) 0 ≡ true = eq-eqb (byte_of 3 first) 0 (omega (arith, laid)) in
      let count : leb (first / 2 ^ 32) capacity ≡ true = le-leb (first / 2 ^ 32) capacity (omega (arith, laid)) in
      let limit : eqb (c.lpi_limit / 2 ^ 32) 0 ≡ true = eq-eqb (c.lpi_limit / 2 ^ 32) 0 (omega arith) in
      simp (switch, owned, four, none, count, limit)

  -- and 8 bytes are enough for the first
  pub first_fits : first < 2 ^ 64
  first_fits = omega (arith, laid)

  -- byte by byte: the switch, the ownership, four flags, a 0, the count and two more, the LPI limit and four more, the frame size
  pub header_bytes : flat 8 (header_words c on n)
      ≡ bool_byte on ∷ bool_byte owner ∷ flagged (c.exposes_guest_lpis ∷ c.its ∷ c.affinity_level_3 ∷ c.range_selector ∷ []) 0 ∷ 0
      ∷ n % 256 ∷ n / 256 ∷ 0 ∷ 0 ∷ bytes_of 4 c.lpi_limit ++ (0 ∷ 0 ∷ 0 ∷ 0 ∷ bytes_of 8 c.distributor_size)
  header_bytes =
      let f = flagged (c.exposes_guest_lpis ∷ c.its ∷ c.affinity_level_3 ∷ c.range_selector ∷ []) 0 in
      let b2 : byte_of 2 first ≡ f = omega (arith, laid) in
      let b3 : byte_of 3 first ≡ 0 = omega (arith, laid) in
      let b4 : byte_of 4 first ≡ n % 256 = ap (λ (m : ℕ). m % 256) count_there in
      let above_low : first / 2 ^ 40 ≡ first / 2 ^ 32 / 256 = sym (div-div-eq-div-mul first (2 ^ 32) 256) in
      let b5 : byte_of 5 first ≡ n / 256 = rw (above_low, count_there) (omega arith) in
      let b6 : byte_of 6 first ≡ 0 = omega (arith, count_there) in
      let b7 : byte_of 7 first ≡ 0 = omega (arith, count_there) in
      let one = bytes_listed 8 first ∙ (λ k. switch_byte k ∷ owner_byte k ∷ b2 k ∷ b3 k ∷ b4 k ∷ b5 k ∷ b6 k ∷ b7 k ∷ []) in
      let above : c.lpi_limit / 256 ^ 4 ≡ 0 = omega arith in
      let two : bytes_of 8 c.lpi_limit ≡ bytes_of 4 c.lpi_limit ++ (0 ∷ 0 ∷ 0 ∷ 0 ∷ []) = bytes_split 4 4 c.lpi_limit ∙ (rw (above, bytes_listed 4 0)) in
      rw (one, two, append-nil, append_assoc)

  -- an image that starts with them has that header, and is good if it is as long as its count says
  module _ (image : List ℕ) (one : number_at 8 0 image ≡ first) (two : number_at 8 8 image ≡ c.lpi_limit) where
    pub header_there : number_at 8 16 image ≡ c.distributor_size → header_of image ≡ record { config = c; enabled = on; spi_count = n }
    header_there three = (λ k. header_in (one k) (two k) (three k)) ∙ header_of_words

    pub image_good : length image ≡ 24 + 8 * n → good_image image ≡ true
    unfolding good_image
    image_good size =
        let long : leb 24 (length image) ≡ true = le-leb 24 (length image) (omega arith) in
        let exact : eqb (length image) (24 + 8 * n) ≡ true = eq-eqb (length image) (24 + 8 * n) size in
        rw (one, two, count_there, long, words-good, exact)

-- ---- good numbers

record Good (first second : ℕ) : Type 0 where
  switch : byte_of 0 first ≤ 1
  owner : byte_of 1 first ≤ 1
  four : byte_of 2 first ≤ 15
  none : byte_of 3 first ≡ 0
  count : first / 2 ^ 32 ≤ capacity
  limit : second / 2 ^ 32 ≡ 0

good_parts : (first second : ℕ) → good_header first second ≡ true → Good first second
unfolding good_header
good_parts first second ok =
    let (p, limit) = both _ (eqb (second / 2 ^ 32) 0) ok in
    let (q, count) = both _ (leb (first / 2 ^ 32) capacity) p in
    let (r, none) = both _ (eqb (byte_of 3 first) 0) q in
    let (s, four) = both _ (leb (byte_of 2 first) 15) r in
    let (switch, owner) = both (leb (byte_of 0 first) 1) (leb (byte_of 1 first) 1) s in
    record { switch = leb-true _ _ switch; owner = leb-true _ _ owner; four = leb-true _ _ four; none = eqb-true _ _ none; count = leb-true _ _ count; limit = eqb-true _ _ limit }

-- four flags make up a byte under 16
four_flags : (n : ℕ) → n % 256 ≤ 15 → n % 2 + 2 * (n / 2 % 2) + 4 * (n / 2 / 2 % 2) + 8 * (n / 2 / 2 / 2 % 2) ≡ n % 256
four_flags n h = omega arith

flags_byte : (w : ℕ) → byte_of 2 w ≤ 15 → w / 2 ^ 16 % 2 + 2 * (w / 2 ^ 17 % 2) + 4 * (w / 2 ^ 18 % 2) + 8 * (w / 2 ^ 19 % 2) ≡ byte_of 2 w
flags_byte w h =
    let p17 : w / 2 ^ 17 ≡ w / 2 ^ 16 / 2 = sym (div-div-eq-div-mul w (2 ^ 16) 2) in
    let p18 : w / 2 ^ 18 ≡ w / 2 ^ 17 / 2 = sym (div-div-eq-div-mul w (2 ^ 17) 2) in
    let p19 : w / 2 ^ 19 ≡ w / 2 ^ 18 / 2 = sym (div-div-eq-div-mul w (2 ^ 18) 2) in
    rw (p19, p18, p17) (four_flags (w / 2 ^ 16) h)

-- three bytes, a byte that is 0, and what is above them make up a number
three_bytes : (n : ℕ) → n / 256 / 256 / 256 % 256 ≡ 0 → n % 256 + 2 ^ 8 * (n / 256 % 256) + 2 ^ 16 * (n / 256 / 256 % 256) + 2 ^ 32 * (n / 256 / 256 / 256 / 256) ≡ n
three_bytes n h = omega arith

bytes_sum : (w : ℕ) → byte_of 3 w ≡ 0 → byte_of 0 w + 2 ^ 8 * byte_of 1 w + 2 ^ 16 * byte_of 2 w + 2 ^ 32 * (w / 2 ^ 32) ≡ w
bytes_sum w h =
    let p2 : w / 2 ^ 16 ≡ w / 256 / 256 = sym (div-div-eq-div-mul w 256 256) in
    let p3 : w / 2 ^ 24 ≡ w / 2 ^ 16 / 256 = sym (div-div-eq-div-mul w (2 ^ 16) 256) in
    let p4 : w / 2 ^ 32 ≡ w / 2 ^ 24 / 256 = sym (div-div-eq-div-mul w (2 ^ 24) 256) in
    rw (p4, p3, p2, div-one) (three_bytes w (rw (p3, p2) at h))

sum_up : (a b t0 t1 t2 t3 s h w : ℕ) → t0 + 2 * t1 + 4 * t2 + 8 * t3 ≡ s → a + 2 ^ 8 * b + 2 ^ 16 * s + 2 ^ 32 * h ≡ w
    → a + 2 ^ 8 * b + 2 ^ 16 * t0 + 2 ^ 17 * t1 + 2 ^ 18 * t2 + 2 ^ 19 * t3 + 2 ^ 32 * h ≡ w
sum_up a b t0 t1 t2 t3 s h w p q = omega arith

module _ (first second third : ℕ) (ok : good_header first second ≡ true) where
  good : Good first second
  good = good_parts first second ok

  -- good numbers mean settings and a count that a header can hold
  pub fitting_header : third < 2 ^ 64 → let h = header_in first second third in Fitting h.config h.spi_count
  unfolding header_in
  fitting_header h = record { count = omega (arith, good.count); limit = omega arith; size = h }

  first_back : let h = header_in first second third in first_word h.config h.enabled h.spi_count ≡ first
  unfolding header_in first_word
  first_back =
      let switch : bool_byte (eqb (byte_of 0 first) 1) ≡ byte_of 0 first = read_bit (byte_of 0 first) (omega (arith, good.switch)) in
      let owner = ap bool_byte (owner-set (eqb (byte_of 1 first) 1)) ∙ read_bit (byte_of 1 first) (omega (arith, good.owner)) in
      let lpis : bool_byte (bit_of 2 0 first) ≡ first / 2 ^ 16 % 2 = read_bit (first / 2 ^ 16 % 2) (omega arith) in
      let its : bool_byte (bit_of 2 1 first) ≡ first / 2 ^ 17 % 2 = read_bit (first / 2 ^ 17 % 2) (omega arith) in
      let level3 : bool_byte (bit_of 2 2 first) ≡ first / 2 ^ 18 % 2 = read_bit (first / 2 ^ 18 % 2) (omega arith) in
      let range : bool_byte (bit_of 2 3 first) ≡ first / 2 ^ 19 % 2 = read_bit (first / 2 ^ 19 % 2) (omega arith) in
      let count : first / 2 ^ 32 % 2 ^ 32 ≡ first / 2 ^ 32 = omega (arith, good.count) in
      rw (switch, owner, lpis, its, level3, range, count) (sum_up _ _ _ _ _ _ _ _ _ (flags_byte first good.four) (bytes_sum first good.none))

  -- and are the numbers of the header that they mean
  pub words_of_header : let h = header_in first second third in header_words h.config h.enabled h.spi_count ≡ first ∷ second ∷ third ∷ []
  unfolding header_in
  words_of_header = let limit : second % 2 ^ 32 ≡ second = omega (arith, good.limit) in λ k. first_back k ∷ limit k ∷ third ∷ []

-- ---- storing the switch

-- the switch is byte 0 alone: storing it leaves every number past the first
pub switch_beside : (image : List ℕ) (x a : ℕ) → number_at 8 (8 + a) (set image 0 x) ≡ number_at 8 (8 + a) image
switch_beside image x a = number_beside 8 image 0 (8 + a) (x ∷ []) (inr (omega arith))

first_byte : (image : List ℕ) → number_at 8 0 image ≡ get_or image 0 0 + 256 * number_at 7 1 image
unfolding number_at
first_byte image = refl

-- the switch is the lowest bit of the first number
pub switched-word : (c : ControllerConfig) (on : Bool) (n : ℕ) → first_word c on n ≡ bool_byte on + first_word c false n
unfolding first_word
switched-word c on n = omega arith

module _ (image : List ℕ) (bytes : Bytes image) (ok : good_image image ≡ true) where
  image_parts : (24 ≤ length image) × (good_header (number_at 8 0 image) (number_at 8 8 image) ≡ true) × (length image ≡ 24 + 8 * (number_at 8 0 image / 2 ^ 32))
  unfolding good_image
  image_parts =
      let long = leb 24 (length image) in
      let good = good_header (number_at 8 0 image) (number_at 8 8 image) in
      let (p, exact) = both (long && good) (eqb (length image) (24 + 8 * (number_at 8 0 image / 2 ^ 32))) ok in
      let (q, r) = both long good p in
      (leb-true 24 (length image) q, r, eqb-true _ _ exact)

  header_good : good_header (number_at 8 0 image) (number_at 8 8 image) ≡ true
  header_good = image_parts.1

  -- a good image has settings and a count that a header can hold
  pub fitting_image : Fitting (header_of image).config (header_of image).spi_count
  fitting_image = fitting_header (number_at 8 0 image) (number_at 8 8 image) (number_at 8 16 image) header_good (number_fits image bytes 8 16)

  -- and is as long as its count says
  pub good_length : length image ≡ 24 + 8 * (header_of image).spi_count
  unfolding header_in
  good_length = omega (arith, image_parts.2, (good_parts (number_at 8 0 image) (number_at 8 8 image) header_good).count)

  -- it starts with the numbers of its header
  pub image_words : let h = header_of image in header_words h.config h.enabled h.spi_count ≡ number_at 8 0 image ∷ number_at 8 8 image ∷ number_at 8 16 image ∷ []
  image_words = words_of_header (number_at 8 0 image) (number_at 8 8 image) (number_at 8 16 image) header_good

  limit_there : number_at 8 8 image ≡ (header_of image).config.lpi_limit
  unfolding header_in
  limit_there = omega (arith, (good_parts (number_at 8 0 image) (number_at 8 8 image) header_good).limit)

  size_there : number_at 8 16 image ≡ (header_of image).config.distributor_size
  unfolding header_in
  size_there = refl

  switch_read : bool_byte (header_of image).enabled ≡ get_or image 0 0
  unfolding header_in
  switch_read =
      let first = number_at 8 0 image in
      let small = (good_parts first (number_at 8 8 image) header_good).switch in
      let low : byte_of 0 first ≡ get_or image 0 0 = rw div-one (let e = first_byte image in omega (arith, bytes.byte 0)) in
      read_bit (byte_of 0 first) (omega arith) ∙ low

  -- the first number, once the switch is stored
  pub switch_stored : (on : Bool) → number_at 8 0 (set image 0 (bool_byte on)) ≡ first_word (header_of image).config on (header_of image).spi_count
  switch_stored on =
      let h = header_of image in
      let first = number_at 8 0 image in
      let was : first_word h.config h.enabled h.spi_count ≡ first = first_back first (number_at 8 8 image) (number_at 8 16 image) header_good in
      let flag : bool_byte h.enabled ≡ get_or image 0 0 = switch_read in
      let old = switched-word h.config h.enabled h.spi_count in
      let new = switched-word h.config on h.spi_count in
      let before = first_byte image in
      let after = first_byte (set image 0 (bool_byte on)) in
      let here : get_or (set image 0 (bool_byte on)) 0 0 ≡ bool_byte on = get_or-set_same image 0 (bool_byte on) 0 (omega (arith, image_parts.0)) in
      let rest : number_at 7 1 (set image 0 (bool_byte on)) ≡ number_at 7 1 image = number_beside 7 image 0 1 (bool_byte on ∷ []) (inr (omega arith)) in
      omega arith

  -- so the header has that switch, and the same settings and count
  pub switch_header : (on : Bool) → header_of (set image 0 (bool_byte on)) ≡ record { config = (header_of image).config; enabled = on; spi_count = (header_of image).spi_count }
  switch_header on =
      header_there (header_of image).config on (header_of image).spi_count fitting_image (set image 0 (bool_byte on)) (switch_stored on)
      (switch_beside image (bool_byte on) 0 ∙ limit_there)
      (switch_beside image (bool_byte on) 8 ∙ size_there)

  -- and the image is good still
  pub switch_good : (on : Bool) → good_image (set image 0 (bool_byte on)) ≡ true
  switch_good on =
      image_good (header_of image).config on (header_of image).spi_count fitting_image (set image 0 (bool_byte on)) (switch_stored on)
      (switch_beside image (bool_byte on) 0 ∙ limit_there)
      (length-set image 0 (bool_byte on) ∙ good_length)
