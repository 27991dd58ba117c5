-- What a draft says.
use Rattle.std.specs.String.{string_bytes}
use Rattle.dm_live.specs.declared.configuration.Draft.{Draft}
use Rattle.dm_live.specs.Settings.{Settings}

abbrev pub settings_of : Draft → Settings
settings_of d =
    record {
      host = d.host.items;
      realm = d.realm.items;
      addresses = d.addresses.items;
      vendor = d.vendor;
      product = string_bytes d.product;
      auth = d.auth.items;
      acct = d.acct.items;
      applications = d.applications.items;
      vendors = d.vendors.items;
      firmware = d.firmware;
      state_id = d.state_id;
      peers = d.peers.items;
      compare = d.compare;
      first_id = d.first_id;
      first_max = d.first_max;
      most = d.most;
    }
