-- "Before each piece, the waiting bytes go out if they and the piece exceed mtu"; "an empty write is no datagram". Pieces packed into datagrams, as
-- bytes and as lengths alone: what joins the two, and that no byte is lost or moved, is in proofs/Packing. Assumes nothing.
use Rattle.std.specs.Prelude.{ℕ, zero, suc, ◌+◌, List, [], ◌∷◌, ◌++◌, length, ltb}
use Rattle.serial.specs.Branch.{pick}

-- lists end to end, and the sum of lengths
unfoldable pub flat : {A : Type 0} → List (List A) → List A
flat [] = []
flat (p ∷ ps) = p ++ flat ps

unfoldable pub sum_of : List ℕ → ℕ
sum_of [] = 0
sum_of (n ∷ ns) = n + sum_of ns

-- "an empty write is no datagram"
unfoldable pub datagram_of : {A : Type 0} → List A → List (List A)
datagram_of [] = []
datagram_of (b ∷ w) = (b ∷ w) ∷ []

-- what goes out before a piece, and what waits then, the piece with it
unfoldable pub goes : {A : Type 0} → ℕ → List A → List A → List (List A)
goes mtu w p = pick (ltb mtu (length w + length p)) (datagram_of w) []

unfoldable pub stays : {A : Type 0} → ℕ → List A → List A → List A
stays mtu w p = pick (ltb mtu (length w + length p)) p (w ++ p)

-- the datagrams of the pieces, in order, and what waits after them
unfoldable pub pack : {A : Type 0} → ℕ → List A → List (List A) → List (List A) × List A
pack mtu w [] = ([], w)
pack mtu w (p ∷ ps) = (goes mtu w p ++ (pack mtu (stays mtu w p) ps).0, (pack mtu (stays mtu w p) ps).1)

-- "if !self.buf.is_empty() { self.output.write_all(&self.buf)?; .. }": what waits goes out too
unfoldable pub pack_all : {A : Type 0} → ℕ → List A → List (List A) → List (List A)
pack_all mtu w ps = (pack mtu w ps).0 ++ datagram_of (pack mtu w ps).1

-- ---- the same over lengths alone

unfoldable pub datagram_size : ℕ → List ℕ
datagram_size zero = []
datagram_size (suc n) = suc n ∷ []

unfoldable pub goes_size : ℕ → ℕ → ℕ → List ℕ
goes_size mtu n k = pick (ltb mtu (n + k)) (datagram_size n) []

unfoldable pub stays_size : ℕ → ℕ → ℕ → ℕ
stays_size mtu n k = pick (ltb mtu (n + k)) k (n + k)

unfoldable pub pack_sizes : ℕ → ℕ → List ℕ → List ℕ × ℕ
pack_sizes mtu n [] = ([], n)
pack_sizes mtu n (k ∷ ks) = (goes_size mtu n k ++ (pack_sizes mtu (stays_size mtu n k) ks).0, (pack_sizes mtu (stays_size mtu n k) ks).1)

unfoldable pub pack_all_sizes : ℕ → ℕ → List ℕ → List ℕ
pack_all_sizes mtu n ks = (pack_sizes mtu n ks).0 ++ datagram_size (pack_sizes mtu n ks).1
