-- Lines that are written by parts.
use Rattle.std.proofs.Common.{◌≡◌, ℕ, ◌+◌, List, ◌++◌, length, take, Result, Ok, Err, ◌∙◌, arith, inl, inr, length-append}
use Rattle.std.specs.Prelude.{OnOk, IfErr}
use Rattle.std.proofs.lemmas.List.{take-append-le}
use Rattle.std.proofs.Math.Seq.{take-append-add}
use Rattle.layout_io.specs.Told.{SinkTold}
use Rattle.whole_files.specs.Puts.{IsPut, IsCut, MetFault, MetShortage, PutStop}
use Rattle.whole_files.specs.Stops.{Tells}
use Rattle.whole_files.specs.declared.stop.Stop.{Stop}
use Rattle.whole_files.specs.declared.stop.Stop.TheVariants as stops
use Rattle.whole_files.proofs.Sinks.{appends_then}

-- a text that wasn't written whole is a line that was cut
cut_line : (e : Stop) (line : List ℕ) (o p : SinkTold) → PutStop line o p e → Tells line o p
cut_line stops.Write line o p stop = inr (stop.0, inl stop.1)
cut_line stops.Memory line o p stop = inr (stop.0, inr stop.1)
cut_line (stops.Design e) line o p stop = absurd stop
cut_line stops.Read line o p stop = absurd stop
cut_line (stops.Script k) line o p stop = absurd stop
cut_line (stops.Unclean a b) line o p stop = absurd stop

-- one writing of a whole line
pub tells_line : (r : Result (Unit {0}) Stop) (line : List ℕ) (o p : SinkTold) → OnOk r (IsPut line o p) → IfErr r (PutStop line o p) → Tells line o p
tells_line (Ok u) line o p put stop = inl put
tells_line (Err e) line o p put stop = cut_line e line o p stop

-- a text of two parts is cut where its first part is
pub cut_first : (line rest : List ℕ) (o p : SinkTold) → IsCut line o p → IsCut (line ++ rest) o p
cut_first line rest o p h =
    let same : take h.n (line ++ rest) ≡ take h.n line = take-append-le h.n line rest (omega (arith, h.less)) in
    record { n = h.n; less = omega (arith, h.less, length-append line rest); written = rw same h.written }

-- behind the whole first part it is cut where its second part is
pub cut_second : (line rest : List ℕ) (o p q : SinkTold) → IsPut line o p → IsCut rest p q → IsCut (line ++ rest) o q
cut_second line rest o p q first h =
    let same : take (length line + h.n) (line ++ rest) ≡ line ++ take h.n rest = take-append-add line rest h.n in
    record {
      n = length line + h.n;
      less = omega (arith, h.less, length-append line rest);
      written = rw same (appends_then o.written p.written q.written line (take h.n rest) first.written h.written);
    }

pub put_both : (line rest : List ℕ) (o p q : SinkTold) → IsPut line o p → IsPut rest p q → IsPut (line ++ rest) o q
put_both line rest o p q first second = record {
  written = appends_then o.written p.written q.written line rest first.written second.written;
  faults = second.faults ∙ first.faults;
  shortages = second.shortages ∙ first.shortages;
}

-- one fault, or one want of memory, behind a part that was written whole
pub fault_behind : (line : List ℕ) (o p q : SinkTold) → IsPut line o p → MetFault p q → MetFault o q
fault_behind line o p q first met = record {
  rose = omega (arith, first.faults, met.rose);
  once = omega (arith, first.faults, met.once);
  later = omega (arith, first.faults, met.later);
  shortages = met.shortages ∙ first.shortages;
}

pub shortage_behind : (line : List ℕ) (o p q : SinkTold) → IsPut line o p → MetShortage p q → MetShortage o q
shortage_behind line o p q first met = record {
  rose = omega (arith, first.shortages, met.rose);
  once = omega (arith, first.shortages, met.once);
  faults = met.faults ∙ first.faults;
}

-- the first part of a line wasn't written whole
pub tells_first : (e : Stop) (line rest : List ℕ) (o p : SinkTold) → PutStop line o p e → Tells (line ++ rest) o p
tells_first stops.Write line rest o p stop = inr (cut_first line rest o p stop.0, inl stop.1)
tells_first stops.Memory line rest o p stop = inr (cut_first line rest o p stop.0, inr stop.1)
tells_first (stops.Design e) line rest o p stop = absurd stop
tells_first stops.Read line rest o p stop = absurd stop
tells_first (stops.Script k) line rest o p stop = absurd stop
tells_first (stops.Unclean a b) line rest o p stop = absurd stop

-- the rest of a line behind its first part
pub tells_rest : (line rest : List ℕ) (o p q : SinkTold) → IsPut line o p → Tells rest p q → Tells (line ++ rest) o q
tells_rest line rest o p q first (inl put) = inl (put_both line rest o p q first put)
tells_rest line rest o p q first (inr (cut, inl met)) = inr (cut_second line rest o p q first cut, inl (fault_behind line o p q first met))
tells_rest line rest o p q first (inr (cut, inr met)) = inr (cut_second line rest o p q first cut, inr (shortage_behind line o p q first met))
