use Rattle.std.proofs.Common.{None, false, refl}
use Rattle.path_service.specs.declared.drivers.Driver.TheInside.{Inside}
use Rattle.path_service.proofs.NewDrivers.{made_of, driver_is, driver_holds}
use Rattle.path_service.proofs.drivers.Driver.new.Goals as goal

pub invariant_of-result : goal.invariant_of-result
invariant_of-result c = driver_holds _ (made_of _ c.requires.map c.requires.standing c.requires.count c.requires.channels c.requires.all_pending refl (refl, refl) c.new.ensures.items c.new-2.ensures.items refl)

pub returns : goal.returns
returns c =
    let a : Inside = record {
      alloc = c.args.alloc;
      map = c.args.map;
      version = c.args.version;
      channels = c.args.channels;
      all_pending = c.args.all_pending;
      staged = None;
      running = None;
      broken = None;
      journal = c.new.result;
      replies = c.new-2.result;
      failed = false;
    } in
    driver_is a (made_of a c.requires.map c.requires.standing c.requires.count c.requires.channels c.requires.all_pending refl (refl, refl) c.new.ensures.items c.new-2.ensures.items refl)
