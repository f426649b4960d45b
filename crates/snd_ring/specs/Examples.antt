-- The definitions at small closed cases. Assumes nothing.
use Rattle.std.specs.Prelude.{true, false, ◌≡◌, refl, [], ◌∷◌, ◌++◌, replicate}
use Rattle.ring.specs.Counting.{at_least, count}
use Rattle.ring.specs.Records.{put, part}
use Rattle.ring.specs.Places.{place, summed, along}
use Rattle.snd_ring.specs.Marks.{passed}
use Rattle.snd_ring.specs.Store.{Store, store, segment, cell, seen, flight_of, waiting_of, marks_fit}
use Rattle.snd_ring.specs.Steps.{ring, written, settled, advanced, dropped, gapped, taken_out, slid_one, slid, closed, closed_ring}

-- four slots of one number; from place 3 on: a segment, a gap and a segment in flight, and one that waits
four : Store
four = store (0 ∷ 2 ∷ 1 ∷ 3 ∷ []) (5 ∷ 6 ∷ 7 ∷ 8 ∷ []) (replicate 1476 1 ++ (replicate 1476 2 ++ (replicate 1476 3 ++ replicate 1476 4)))

flying : flight_of 1 (ring 3 3 2 1) four ≡ segment (8 ∷ []) (4 ∷ 4 ∷ []) ∷ segment (6 ∷ []) (2 ∷ []) ∷ []
unfolding flight_of seen along cell place part four
flying = refl

waiting : waiting_of 1 (ring 3 3 2 1) four ≡ segment (7 ∷ []) [] ∷ []
unfolding waiting_of seen along cell place part four
waiting = refl

good : marks_fit (ring 3 3 2 1) (0 ∷ 2 ∷ 1 ∷ 3 ∷ []) ≡ true
unfolding marks_fit count summed at_least place
good = refl

-- a gap at the front, and a wrong count
front : marks_fit (ring 0 3 2 1) (0 ∷ 2 ∷ 1 ∷ 3 ∷ []) ≡ false
unfolding marks_fit count summed at_least place
front = refl

counted : marks_fit (ring 3 3 3 1) (0 ∷ 2 ∷ 1 ∷ 3 ∷ []) ≡ false
unfolding marks_fit count summed at_least place
counted = refl

-- the first leaves, and the gap behind it; all leave
first : dropped (ring 3 3 2 1) (0 ∷ 2 ∷ 1 ∷ 3 ∷ []) 1 ≡ ring 1 1 1 1
unfolding dropped advanced settled passed at_least place
first = refl

all : dropped (ring 3 3 2 0) (0 ∷ 2 ∷ 1 ∷ 3 ∷ []) 2 ≡ ring 0 0 0 0
unfolding dropped advanced settled passed at_least place
all = refl

out : taken_out (ring 3 3 2 1) (0 ∷ 2 ∷ 1 ∷ 3 ∷ []) 0 ≡ ring 1 1 1 1
unfolding taken_out gapped dropped advanced settled passed at_least place
out = refl

-- the gap is closed: the first segment stands behind it
together : flight_of 1 (closed_ring 4 (ring 3 3 2 1)) (closed 1 (ring 3 3 2 1) four) ≡ segment (8 ∷ []) (4 ∷ 4 ∷ []) ∷ segment (6 ∷ []) (2 ∷ []) ∷ []
unfolding closed_ring closed slid slid_one written at_least put settled flight_of seen along cell place part four
together = refl
