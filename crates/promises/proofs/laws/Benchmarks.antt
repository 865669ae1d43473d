-- P1 to P11 hold.
use Rattle.job.proofs.laws.Examples as examples
use Rattle.promises.specs.definitions.Benchmarks.{Benchmarks}

pub benchmarks_hold : Benchmarks
benchmarks_hold =
    let (operations, tests, job) = examples.benchmarks in
    let (p1, p2, p3, p4, p5, p6) = operations in
    let (p7, p8, p9, p10) = tests in
    record { P1 = p1; P2 = p2; P3 = p3; P4 = p4; P5 = p5; P6 = p6; P7 = p7; P8 = p8; P9 = p9; P10 = p10; P11 = job }
