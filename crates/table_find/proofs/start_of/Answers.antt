-- `table_find::start_of` meets its contract. Assumes nothing.
use native.Mathlib.Omega.{arith}
use Rattle.table_find.proofs.FindLaws.{nodes-start, links-start, curves-start, patterns-start, rules-start}
use Rattle.table_find.proofs.start_of.Goals as goal

pub returns-in-Nodes : goal.returns-in-Nodes
returns-in-Nodes c =
    let a = c.args in
    let e = c.first_in_slot.ensures in
    rw c.in-Nodes.is (e.0, nodes-start a.words.now a.key a.count c.slot_of-slot.result c.first_in_slot.result c.slot_of-slot.ensures e.0 e.1)

pub returns-in-Links : goal.returns-in-Links
returns-in-Links c =
    let a = c.args in
    let e = c.first_in_slot-in-Links.ensures in
    rw c.in-Links.is (e.0, links-start a.words.now a.key a.count c.slot_of-slot.result c.first_in_slot-in-Links.result c.slot_of-slot.ensures e.0 e.1)

pub returns-in-Curves : goal.returns-in-Curves
returns-in-Curves c =
    let a = c.args in
    let e = c.first_in_slot-in-Curves.ensures in
    rw c.in-Curves.is (e.0, curves-start a.words.now a.key a.count c.slot_of-slot.result c.first_in_slot-in-Curves.result c.slot_of-slot.ensures e.0 e.1)

pub returns-in-Patterns : goal.returns-in-Patterns
returns-in-Patterns c =
    let a = c.args in
    let e = c.first_in_slot-in-Patterns.ensures in
    rw c.in-Patterns.is (e.0, patterns-start a.words.now a.key a.count c.slot_of-slot.result c.first_in_slot-in-Patterns.result c.slot_of-slot.ensures e.0 e.1)

pub returns-in-Rules : goal.returns-in-Rules
returns-in-Rules c =
    let a = c.args in
    rw c.in-Rules.is (omega arith, rules-start a.words.now a.key a.count)
