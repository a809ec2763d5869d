-- A piece that finds no room was consumed all the same.
use Rattle.std.proofs.Common.{◌+◌, ◌≤◌, ◌++◌, OnErr, Result, Ok, Err, arith, length, take, length-append, length-take}
use Rattle.std.proofs.KnownBytes.{Consumes-trans}
use Rattle.plank_io.specs.Whole.{ConsumesUpTo}
use Rattle.plank_io.proofs.whole.read_up_to.Goals as goal

-- what holds anyway holds at an error
holds-on_err : {X E : Type 0} (r : Result X E) (P : Type 0) → P → OnErr r P
holds-on_err (Ok x) P p = tt
holds-on_err (Err e) P p = p

pub returns-in_err-extend_from_slice-in-Bytes-clause-out_of_memory :
    goal.returns-in_err-extend_from_slice-in-Bytes-clause-out_of_memory
returns-in_err-extend_from_slice-in-Bytes-clause-out_of_memory g c =
    let count = c.in-Bytes.count in
    let so_far = c.loop-piece.bytes.items in
    let piece = take count c.read.new.into in
    let read = c.in-Bytes.ensures.read in
    let fits : length (so_far ++ piece) ≤ c.args.most + 1 =
    omega (arith, length-append so_far piece, length-take count c.read.new.into, length-take c.min-wanted.result c.loop-piece.piece, c.loop-piece.bytes.ok.0, read.1, c.read.auto.into)
    in
    let consumed : ConsumesUpTo (g.S.Source.left c.args.source.now) (g.S.Source.left c.read.new.self) (c.args.most + 1) =
    (so_far ++ piece, Consumes-trans _ _ _ _ _ c.loop-piece.invariant.consumed read.2, fits)
    in
    holds-on_err _ _ consumed
